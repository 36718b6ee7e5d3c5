-- Seven sections in a row: a book that lists something is read as such, what is read as a book lists something, and no book lists two things.
-- Assumes nothing.
use mathlib.Core.Path.{◌≡◌, refl, sym, ap, ◌∙◌}
use mathlib.Core.Bool.{true}
use mathlib.Core.List.{List, [], ◌++◌, append-nil, append_assoc}
use Prim.Native.Nat.{ℕ, ◌+◌, ◌≤◌, ◌<◌, zero-le}
use native.Mathlib.Nat.{lt_irrefl}
use native.Mathlib.Omega.{arith}
use lib.ListN.{length, drop, length-drop, drop_of_length-le}
use lib.Dec.{leb}
use borrow.Author.Tests.{leb-true}
use Rattle.numbers.proofs.Laws.{Bytes}
use Rattle.record.specs.Choice.{◌and◌}
use Rattle.record.proofs.Chain.{and_left, and_right}
use Rattle.book.specs.declared.Kind.{Kind}
use Rattle.book.specs.declared.Section.{Section}
use Rattle.book.specs.declared.Book.{Book}
use Rattle.std.specs.Prelude.{Option, Some, None}
use Rattle.book.specs.Book.{system_kind, location_kind, betc_kind, type_kind, state_kind, country_kind, currency_kind, entries_at, section_of, Contents, book_of, Lists, standing, past, systems_at, locations_at, betcs_at, types_at, states_at, countries_at, currencies_at, placed, Opened, listed_at, ShelvedAs, Usable}
use Rattle.book.specs.Book.Opened.{sound, unsound}
use Rattle.book.specs.Reading.{Kinded, section_at}
use Rattle.book.proofs.Pieces.{piece, Stood, stood}

-- a kind of document 01, by a test that is computed
kinded : (k : Kind) → (leb 1 k.entry and leb k.code k.entry and leb k.entry (k.code + 1)) ≡ true → Kinded k
kinded k e =
    let f = and_right (leb 1 k.entry) _ e in
    record { some = leb-true _ _ (and_left _ _ e); whole = leb-true _ _ (and_left _ _ f); flag = leb-true _ _ (and_right (leb k.code k.entry) _ f) }

-- a book from a section on
abbrev pub from_currencies : Contents → List ℕ
from_currencies k = section_of currency_kind k.currencies

abbrev pub from_countries : Contents → List ℕ
from_countries k = section_of country_kind k.countries ++ from_currencies k

abbrev pub from_states : Contents → List ℕ
from_states k = section_of state_kind k.states ++ from_countries k

abbrev pub from_types : Contents → List ℕ
from_types k = section_of type_kind k.types ++ from_states k

abbrev pub from_betcs : Contents → List ℕ
from_betcs k = section_of betc_kind k.betcs ++ from_types k

abbrev pub from_locations : Contents → List ℕ
from_locations k = section_of location_kind k.locations ++ from_betcs k

unrolled : (k : Contents) → book_of k ≡ section_of system_kind k.systems ++ from_locations k
unfolding book_of
unrolled k = simp append_assoc

-- where the sections of a sound book stand, each with what follows it
pub record Shelves (bs : List ℕ) (k : Contents) : Type 0 where
  pub systems : Stood bs 0 system_kind k.systems (from_locations k)
  pub locations : Stood bs (past (systems_at k)) location_kind k.locations (from_betcs k)
  pub betcs : Stood bs (past (locations_at k)) betc_kind k.betcs (from_types k)
  pub types : Stood bs (past (betcs_at k)) type_kind k.types (from_states k)
  pub states : Stood bs (past (types_at k)) state_kind k.states (from_countries k)
  pub countries : Stood bs (past (states_at k)) country_kind k.countries (from_currencies k)
  pub currencies : Stood bs (past (countries_at k)) currency_kind k.currencies []

pub shelves : (bs : List ℕ) (k : Contents) → Lists bs k → Shelves bs k
unfolding past ◌and◌
shelves bs k l =
    let s1 = stood bs 0 system_kind k.systems (from_locations k) (l.made ∙ unrolled k) l.systems (kinded system_kind refl) (omega arith) (record { inside = zero-le; small = l.small }) in
    let s2 = stood bs (past (systems_at k)) location_kind k.locations (from_betcs k) s1.left l.locations (kinded location_kind refl) (omega arith) s1.readable in
    let s3 = stood bs (past (locations_at k)) betc_kind k.betcs (from_types k) s2.left l.betcs (kinded betc_kind refl) (omega arith) s2.readable in
    let s4 = stood bs (past (betcs_at k)) type_kind k.types (from_states k) s3.left l.types (kinded type_kind refl) (omega arith) s3.readable in
    let s5 = stood bs (past (types_at k)) state_kind k.states (from_countries k) s4.left l.states (kinded state_kind refl) (omega arith) s4.readable in
    let s6 = stood bs (past (states_at k)) country_kind k.countries (from_currencies k) s5.left l.countries (kinded country_kind refl) (omega arith) s5.readable in
    let s7 = stood bs (past (countries_at k)) currency_kind k.currencies [] (s6.left ∙ sym (append-nil _)) l.currencies (kinded currency_kind refl) (omega arith) s6.readable in
    record { systems = s1; locations = s2; betcs = s3; types = s4; states = s5; countries = s6; currencies = s7 }

-- the section is the one that stands at its place in any book that these bytes are
abbrev Means : List ℕ → (Contents → Section) → Section → Type 0
Means bs place s = (k : Contents) → Lists bs k → s ≡ place k

-- the section after one that was found is found too in a book that lists something
module _ (bs : List ℕ) (kind : Kind) (place : Contents → Section) (at : ℕ) (h : (k : Contents) → Lists bs k → section_at bs at kind ≡ Some (place k)) where
  found_next : (s : Section) → Some s ≡ section_at bs at kind → Means bs place s
  found_next s e k l = let w = h k l in cc

  pub lost_next : None ≡ section_at bs at kind → Opened bs None
  lost_next e = unsound (λ k l. let w = h k l in cc)

-- a section found after another
then : (bs : List ℕ) (kind : Kind) (before place : Contents → Section) (s : Section) → Means bs before s
    → ((k : Contents) → Lists bs k → section_at bs (past (before k)) kind ≡ Some (place k)) → (k : Contents) → Lists bs k → section_at bs (past s) kind ≡ Some (place k)
then bs kind before place s m h k l = rw (m k l) (h k l)

-- the sections of a book, read one after another up to some of them
module _ (bs : List ℕ) where
  pub systems_stand : (k : Contents) → Lists bs k → section_at bs 0 system_kind ≡ Some (systems_at k)
  systems_stand k l = (shelves bs k l).systems.found

  module _ (a : Section) (ea : Some a ≡ section_at bs 0 system_kind) where
    pub locations_stand : (k : Contents) → Lists bs k → section_at bs (past a) location_kind ≡ Some (locations_at k)
    locations_stand =
        then bs location_kind systems_at locations_at a (found_next bs system_kind systems_at 0 systems_stand a ea) (λ k l. (shelves bs k l).locations.found)

    module _ (b : Section) (eb : Some b ≡ section_at bs (past a) location_kind) where
      pub betcs_stand : (k : Contents) → Lists bs k → section_at bs (past b) betc_kind ≡ Some (betcs_at k)
      betcs_stand =
          then bs betc_kind locations_at betcs_at b (found_next bs location_kind locations_at (past a) locations_stand b eb) (λ k l. (shelves bs k l).betcs.found)

      module _ (c : Section) (ec : Some c ≡ section_at bs (past b) betc_kind) where
        pub types_stand : (k : Contents) → Lists bs k → section_at bs (past c) type_kind ≡ Some (types_at k)
        types_stand =
            then bs type_kind betcs_at types_at c (found_next bs betc_kind betcs_at (past b) betcs_stand c ec) (λ k l. (shelves bs k l).types.found)

        module _ (d : Section) (ed : Some d ≡ section_at bs (past c) type_kind) where
          pub states_stand : (k : Contents) → Lists bs k → section_at bs (past d) state_kind ≡ Some (states_at k)
          states_stand =
              then bs state_kind types_at states_at d (found_next bs type_kind types_at (past c) types_stand d ed) (λ k l. (shelves bs k l).states.found)

          module _ (e : Section) (ee : Some e ≡ section_at bs (past d) state_kind) where
            pub countries_stand : (k : Contents) → Lists bs k → section_at bs (past e) country_kind ≡ Some (countries_at k)
            countries_stand =
                then bs country_kind states_at countries_at e (found_next bs state_kind states_at (past d) states_stand e ee) (λ k l. (shelves bs k l).countries.found)

            module _ (f : Section) (ef : Some f ≡ section_at bs (past e) country_kind) where
              pub currencies_stand : (k : Contents) → Lists bs k → section_at bs (past f) currency_kind ≡ Some (currencies_at k)
              currencies_stand =
                  then bs currency_kind countries_at currencies_at f (found_next bs country_kind countries_at (past e) countries_stand f ef) (λ k l. (shelves bs k l).currencies.found)

              module _ (g : Section) (eg : Some g ≡ section_at bs (past f) currency_kind) where
                -- in a book that lists something the sections are where they stand, and the last ends with the book
                placed_as : (k : Contents) → Lists bs k
                    → (past g ≡ length bs)
                    × (record { systems = a; locations = b; betcs = c; types = d; states = e; countries = f; currencies = g } ≡ placed k)
                unfolding past placed
                placed_as k l =
                    let v = shelves bs k l in
                    let s1 = found_next bs system_kind systems_at 0 systems_stand a ea k l in
                    let s2 = found_next bs location_kind locations_at (past a) locations_stand b eb k l in
                    let s3 = found_next bs betc_kind betcs_at (past b) betcs_stand c ec k l in
                    let s4 = found_next bs type_kind types_at (past c) types_stand d ed k l in
                    let s5 = found_next bs state_kind states_at (past d) states_stand e ee k l in
                    let s6 = found_next bs country_kind countries_at (past e) countries_stand f ef k l in
                    let s7 = found_next bs currency_kind currencies_at (past f) currencies_stand g eg k l in
                    let n : length bs ≡ past (currencies_at k) = omega (arith, simp length-drop at (ap length v.currencies.left), v.currencies.readable.inside) in
                    (ap past s7 ∙ sym n, (λ i. record { systems = s1 i; locations = s2 i; betcs = s3 i; types = s4 i; states = s5 i; countries = s6 i; currencies = s7 i }))

                -- what is read to its end lists what its sections hold
                pub book_found : Bytes bs → length bs ≤ 16777216 → past g ≡ length bs
                    → Opened bs (Some (record { systems = a; locations = b; betcs = c; types = d; states = e; countries = f; currencies = g }))
                book_found y small n =
                    let p1 = piece bs 0 system_kind a y (sym ea) in
                    let p2 = piece bs (past a) location_kind b y (sym eb) in
                    let p3 = piece bs (past b) betc_kind c y (sym ec) in
                    let p4 = piece bs (past c) type_kind d y (sym ed) in
                    let p5 = piece bs (past d) state_kind e y (sym ee) in
                    let p6 = piece bs (past e) country_kind f y (sym ef) in
                    let p7 = piece bs (past f) currency_kind g y (sym eg) in
                    let k : Contents = record {
                      systems = p1.entries;
                      locations = p2.entries;
                      betcs = p3.entries;
                      types = p4.entries;
                      states = p5.entries;
                      countries = p6.entries;
                      currencies = p7.entries;
                    } in
                    let m : length bs ≤ past g = omega (arith, n) in
                    let last : drop (past g) bs ≡ [] = drop_of_length-le bs m in
                    let made : bs ≡ book_of k =
                    p1.made ∙ rw (p2.made, p3.made, p4.made, p5.made, p6.made, p7.made, last, append-nil) (sym (unrolled k)) in
                    let l : Lists bs k = record {
                      made = made;
                      small = small;
                      systems = p1.sound;
                      locations = p2.sound;
                      betcs = p3.sound;
                      types = p4.sound;
                      states = p5.sound;
                      countries = p6.sound;
                      currencies = p7.sound;
                    } in
                    rw (placed_as k l).1 (sound k l)

                pub book_unended : (past g ≡ length bs → ⊥) → Opened bs None
                book_unended n = unsound (λ k l. n (placed_as k l).0)

pub too_long : (bs : List ℕ) → 16777216 < length bs → Opened bs None
too_long bs h = unsound (λ k l. lt_irrefl 16777216 (omega (arith, l.small)))

-- two readings of the same bytes have the same section at the same place
same : (bs : List ℕ) (at to : ℕ) (k : Kind) (es fs : List (List ℕ)) (r s : List ℕ) → at ≡ to → Stood bs at k es r → Stood bs to k fs s
    → (standing at k es ≡ standing to k fs) × (es ≡ fs)
same bs at to k es fs r s q v w =
    let o : Some (standing at k es) ≡ Some (standing to k fs) = sym v.found ∙ ap (λ (n : ℕ). section_at bs n k) q ∙ w.found in
    let p : standing at k es ≡ standing to k fs = cc in
    (p, sym v.entries ∙ ap (entries_at bs) p ∙ w.entries)

-- a book lists one thing only
pub lists_one : (bs : List ℕ) (k m : Contents) → Lists bs k → Lists bs m → k ≡ m
unfolding past
lists_one bs k m l n =
    let v = shelves bs k l in
    let w = shelves bs m n in
    let e1 = same bs _ _ system_kind _ _ _ _ refl v.systems w.systems in
    let e2 = same bs _ _ location_kind _ _ _ _ (ap past e1.0) v.locations w.locations in
    let e3 = same bs _ _ betc_kind _ _ _ _ (ap past e2.0) v.betcs w.betcs in
    let e4 = same bs _ _ type_kind _ _ _ _ (ap past e3.0) v.types w.types in
    let e5 = same bs _ _ state_kind _ _ _ _ (ap past e4.0) v.states w.states in
    let e6 = same bs _ _ country_kind _ _ _ _ (ap past e5.0) v.countries w.countries in
    let e7 = same bs _ _ currency_kind _ _ _ _ (ap past e6.0) v.currencies w.currencies in
    λ i. record {
      systems = e1.1 i;
      locations = e2.1 i;
      betcs = e3.1 i;
      types = e4.1 i;
      states = e5.1 i;
      countries = e6.1 i;
      currencies = e7.1 i;
    }

-- what reading comes to is one thing only
pub opened_one : (bs : List ℕ) (r s : Option Book) → Opened bs r → Opened bs s → r ≡ s
opened_one bs r s (sound k l) (sound m n) = ap (λ (x : Contents). Some (placed x)) (lists_one bs k m l n)
opened_one bs r s (sound k l) (unsound n) = absurd (n k l)
opened_one bs r s (unsound n) (sound k l) = absurd (n k l)
opened_one bs r s (unsound n) (unsound m) = refl

-- a section where it stands
as_kind : (bs : List ℕ) (at : ℕ) (k : Kind) (es : List (List ℕ)) (rest : List ℕ) → Stood bs at k es rest → ShelvedAs bs k (standing at k es)
unfolding standing
as_kind bs at k es rest v = record { coded = refl; shelved = v.shelved }

-- every section of a sound book can be looked up in
pub usable : (bs : List ℕ) (k : Contents) → Lists bs k → Usable bs (placed k)
unfolding placed past
usable bs k l =
    let v = shelves bs k l in
    record {
      systems = as_kind bs _ _ _ _ v.systems;
      locations = as_kind bs _ _ _ _ v.locations;
      betcs = as_kind bs _ _ _ _ v.betcs;
      types = as_kind bs _ _ _ _ v.types;
      states = as_kind bs _ _ _ _ v.states;
      countries = as_kind bs _ _ _ _ v.countries;
      currencies = as_kind bs _ _ _ _ v.currencies;
    }

-- so can those of a book that was read
pub usable_read : (bs : List ℕ) (r : Option Book) (b : Book) → Opened bs r → r ≡ Some b → Usable bs b
usable_read bs r b (sound k l) e = let q : placed k ≡ b = cc in rw (← q) (usable bs k l)
usable_read bs r b (unsound n) e = absurd (cc)

-- and what stands at its places is what it lists
pub listed_there : (bs : List ℕ) (k : Contents) → Lists bs k → listed_at bs (placed k) ≡ k
unfolding listed_at placed past
listed_there bs k l =
    let v = shelves bs k l in
    λ i. record {
      systems = v.systems.entries i;
      locations = v.locations.entries i;
      betcs = v.betcs.entries i;
      types = v.types.entries i;
      states = v.states.entries i;
      countries = v.countries.entries i;
      currencies = v.currencies.entries i;
    }
