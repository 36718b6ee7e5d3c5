-- A visit of one record: its four outcomes, and what the table holds after it.
-- Assumes nothing.
use mathlib.Core.Path.{◌≡◌, refl, sym, ap, ◌∙◌}
use mathlib.Core.Bool.{Bool, true, false, not}
use mathlib.Core.List.{List, [], ◌∷◌, ◌++◌, append-nil}
use Prim.Native.Nat.{ℕ, ◌+◌, ◌-◌, ◌≤◌, ◌<◌}
use native.Mathlib.Omega.{arith}
use borrow.Author.Tests.{ltb-true, ltb-false}
use lib.Dec.{ltb}
use lib.ListN.{length}
use Rattle.record.specs.declared.Field.{Field}
use Rattle.record.specs.Choice.{◌and◌, choose}
use Rattle.record.specs.Value.{held}
use Rattle.nesting.specs.Records.{cut, record_at}
use Rattle.tables.specs.declared.Entry.{Entry}
use Rattle.tables.specs.declared.Entry.TheVariants.{Known, New, Full}
use Rattle.tables.specs.declared.Key.TheVariants.{Value}
use Rattle.tables.specs.Tables.{Stands, Tabled, member, is_known, is_new, tells_known, entry_of, count_after, table_after}
use Rattle.tables.proofs.Tables.{Holds, member_again, holds_none, entry_tells, known_is, holds_known, holds_new, holds_full, count_known, count_new, count_full, after_length}
use Rattle.repeats.specs.declared.Sort.{Sort}
use Rattle.repeats.specs.declared.blocks.Visited.{Visited}
use Rattle.repeats.specs.Repeats.{numbering, is_of, numbers}
use Rattle.repeats.specs.Blocks.{lesser, between, meets, is_left_out, visited, count_visited, table_visited}
use Rattle.repeats.proofs.Ranges.{numbers_more}

-- what came of the visit: the record is of another sort, the table holds its number, it was entered, or it found no room
data Went (sort : Sort) (first : ℕ) (bytes table : List ℕ) (count place next : ℕ) (v : Visited) (grown : ℕ) (after : List ℕ) : Type 0 where
  other : is_of sort (record_at first place bytes) ≡ false → grown ≡ count → v.next ≡ next → after ≡ table → Went sort first bytes table count place next v grown after
  met : is_of sort (record_at first place bytes) ≡ true → tells_known (entry_of first (Value (numbering sort)) bytes table count place) ≡ true
      → grown ≡ count_after first (Value (numbering sort)) bytes table count place → v.next ≡ next → after ≡ table_after first (Value (numbering sort)) bytes table count place
      → Went sort first bytes table count place next v grown after
  entered : is_of sort (record_at first place bytes) ≡ true → tells_known (entry_of first (Value (numbering sort)) bytes table count place) ≡ false → count < length table
      → grown ≡ count_after first (Value (numbering sort)) bytes table count place → v.next ≡ next → after ≡ table_after first (Value (numbering sort)) bytes table count place
      → Went sort first bytes table count place next v grown after
  left : is_of sort (record_at first place bytes) ≡ true → tells_known (entry_of first (Value (numbering sort)) bytes table count place) ≡ false → length table ≤ count
      → grown ≡ count_after first (Value (numbering sort)) bytes table count place → v.next ≡ lesser next place → after ≡ table_after first (Value (numbering sort)) bytes table count place
      → Went sort first bytes table count place next v grown after

pub tabled_as : (sort : Sort) (field : Field) (first : ℕ) (bytes table : List ℕ) (count : ℕ) → field ≡ numbering sort → Tabled first (Value (numbering sort)) bytes table count
    → Tabled first (Value field) bytes table count
tabled_as sort field first bytes table count i t = rw i t

-- the answer says that the place was entered
new_tells : Entry → Bool
new_tells Known = false
new_tells New = true
new_tells Full = false

knowns : (k r : Bool) → tells_known (choose k Known (choose (not k and r) New Full)) ≡ k
unfolding tells_known choose ◌and◌
knowns true r = refl
knowns false true = refl
knowns false false = refl

news : (k r : Bool) → new_tells (choose k Known (choose (not k and r) New Full)) ≡ (not k and r)
unfolding choose ◌and◌ new_tells
news true r = refl
news false true = refl
news false false = refl

module _ (sort : Sort) (first : ℕ) (bytes table : List ℕ) (count place next : ℕ) where
  -- the results of the code
  pub visit_other : is_of sort (record_at first place bytes) ≡ false → record { own = false; known = false; next = next } ≡ visited sort first bytes table count place next
  unfolding visited is_left_out ◌and◌ choose
  visit_other o = sym (rw o)

  pub count_other : is_of sort (record_at first place bytes) ≡ false → count ≡ count_visited sort first bytes table count place
  unfolding count_visited choose
  count_other o = sym (rw o)

  pub table_other : is_of sort (record_at first place bytes) ≡ false → table ≡ table_visited sort first bytes table count place
  unfolding table_visited choose
  table_other o = sym (rw o)

  module _ (field : Field) (i : field ≡ numbering sort) (o : is_of sort (record_at first place bytes) ≡ true) where
    pub count_own : (n : ℕ) → n ≡ count_after first (Value field) bytes table count place → n ≡ count_visited sort first bytes table count place
    unfolding count_visited choose
    count_own n a = rw (o, ← i) a

    pub table_own : (after : List ℕ) → after ≡ table_after first (Value field) bytes table count place → after ≡ table_visited sort first bytes table count place
    unfolding table_visited choose
    table_own after a = rw (o, ← i) a

    module _ (e : Entry) (q : e ≡ entry_of first (Value field) bytes table count place) where
      -- what the entry says of the tests
      known_told : tells_known e ≡ is_known first (Value (numbering sort)) bytes table count place
      unfolding entry_of is_new
      known_told = rw (q, i) (knowns (is_known first (Value (numbering sort)) bytes table count place) (ltb count (length table)))

      new_told : new_tells e ≡ is_new first (Value (numbering sort)) bytes table count place
      unfolding entry_of is_new
      new_told = rw (q, i) (news (is_known first (Value (numbering sort)) bytes table count place) (ltb count (length table)))

      pub visit_known : e ≡ Known → record { own = true; known = true; next = next } ≡ visited sort first bytes table count place next
      unfolding visited is_left_out tells_known ◌and◌ choose
      visit_known k =
          let g : is_known first (Value (numbering sort)) bytes table count place ≡ true = sym known_told ∙ ap tells_known k in
          sym (rw (o, g))

      pub visit_new : e ≡ New → record { own = true; known = false; next = next } ≡ visited sort first bytes table count place next
      unfolding visited is_left_out tells_known new_tells ◌and◌ choose
      visit_new k =
          let g : is_known first (Value (numbering sort)) bytes table count place ≡ false = sym known_told ∙ ap tells_known k in
          let f : is_new first (Value (numbering sort)) bytes table count place ≡ true = sym new_told ∙ ap new_tells k in
          sym (rw (o, g, f))

      pub visit_left : e ≡ Full → (n : ℕ) → n ≡ lesser next place → record { own = true; known = false; next = n } ≡ visited sort first bytes table count place next
      unfolding visited is_left_out tells_known new_tells ◌and◌ choose
      visit_left k n l =
          let g : is_known first (Value (numbering sort)) bytes table count place ≡ false = sym known_told ∙ ap tells_known k in
          let f : is_new first (Value (numbering sort)) bytes table count place ≡ false = sym new_told ∙ ap new_tells k in
          rw (o, g, f, l)

  -- and what they say
  module _ (v : Visited) (q : v ≡ visited sort first bytes table count place next) (grown : ℕ) (d : grown ≡ count_visited sort first bytes table count place) (after : List ℕ) (a : after ≡ table_visited sort first bytes table count place) where
    went_by : (o k r : Bool) → is_of sort (record_at first place bytes) ≡ o → is_known first (Value (numbering sort)) bytes table count place ≡ k → ltb count (length table) ≡ r
        → Went sort first bytes table count place next v grown after
    unfolding visited count_visited table_visited is_left_out entry_of count_after is_new tells_known ◌and◌ choose
    went_by false k r e f g = other e (rw (d, e)) (rw (q, e)) (rw (a, e))
    went_by true true r e f g = met e (rw f) (rw (d, e)) (rw (q, e, f)) (rw (a, e))
    went_by true false true e f g = entered e (rw (f, g)) (ltb-true _ _ g) (rw (d, e)) (rw (q, e, f, g)) (rw (a, e))
    went_by true false false e f g = left e (rw (f, g)) (ltb-false _ _ g) (rw (d, e)) (rw (q, e, f, g)) (rw (a, e))

    went : Went sort first bytes table count place next v grown after
    went = went_by _ _ _ refl refl refl

-- the table holds the numbers of the records from a place on, up to the next to be visited or the first that found no room; there is none before
-- the limit while the table has room
pub record Held (sort : Sort) (first : ℕ) (bytes : List ℕ) (from limit place : ℕ) (table : List ℕ) (count next : ℕ) : Type 0 where
  pub holds : Holds first (Value (numbering sort)) bytes table count (numbers sort (between first from (lesser next place) bytes))
  pub full : next < limit → length table ≤ count

-- the table of a block that begins at a place: it has room, holds no more numbers than records were visited, and none was left out at once
pub record Filling (room : ℕ) (sort : Sort) (first : ℕ) (bytes : List ℕ) (from limit place : ℕ) (table : List ℕ) (count next : ℕ) : Type 0 where
  pub table_held : Held sort first bytes from limit place table count next
  pub size : length table ≡ room
  pub roomy : 0 < room
  pub few : count + from ≤ place
  pub ahead : from < next
  pub last : next ≤ limit

pub filling_none : (sort : Sort) (first : ℕ) (bytes : List ℕ) (from limit : ℕ) (table : List ℕ) → length table ≡ 4096 → from < limit
    → Filling (length table) sort first bytes from limit from table 0 limit
unfolding numbers cut
filling_none sort first bytes from limit table n l =
    let e : limit - (limit - from) - from ≡ 0 = omega arith in
    record {
      table_held = record { holds = rw e (holds_none first (Value (numbering sort)) bytes table (omega (arith, n))); full = λ m. absurd (omega arith) };
      size = refl;
      roomy = omega (arith, n);
      few = omega arith;
      ahead = l;
      last = omega arith;
    }

pub filling_tabled : (room : ℕ) (sort : Sort) (first : ℕ) (bytes : List ℕ) (from limit place : ℕ) (table : List ℕ) (count next : ℕ) → Filling room sort first bytes from limit place table count next
    → Tabled first (Value (numbering sort)) bytes table count
filling_tabled room sort first bytes from limit place table count next b = b.table_held.holds.tabled

module _ (room : ℕ) (sort : Sort) (first : ℕ) (bytes : List ℕ) (from limit place : ℕ) (table : List ℕ) (count next : ℕ) (b : Filling room sort first bytes from limit place table count next) (s : Stands first place bytes) where
  h : Held sort first bytes from limit place table count next
  h = b.table_held

  -- the numbers that the table holds
  abbrev these : List (List ℕ)
  these = numbers sort (between first from (lesser next place) bytes)

  abbrev number : List ℕ
  number = held (record_at first place bytes) (numbering sort)

  -- and those that it is to hold after the visit
  over : next ≤ place → numbers sort (between first from (lesser next (place + 1)) bytes) ≡ these
  over l =
      let e : next - (next - (place + 1)) ≡ next - (next - place) = omega arith in
      rw e

  more : from ≤ place → place < next → numbers sort (between first from (lesser next (place + 1)) bytes) ≡ these ++ choose (is_of sort (record_at first place bytes)) (number ∷ []) []
  more f l =
      let e : next - (next - (place + 1)) ≡ place + 1 = omega arith in
      let d : next - (next - place) ≡ place = omega arith in
      rw (e, d) (numbers_more sort first bytes from place f)

  module _ (v : Visited) (q : v ≡ visited sort first bytes table count place next) where
    -- the visit tells whether the record has the number of one of them
    pub visit_meets : v.known ≡ meets sort first bytes from (lesser next place) place
    unfolding visited meets
    visit_meets =
        ap (λ (x : Visited). x.known) q
        ∙ ap (λ (b : Bool). is_of sort (record_at first place bytes) and b) (sym (entry_tells first (Value (numbering sort)) bytes table count place) ∙ known_is first (Value (numbering sort)) bytes table count these place h.holds s _ _ _ refl refl refl)

    module _ (grown : ℕ) (d : grown ≡ count_visited sort first bytes table count place) (after : List ℕ) (a : after ≡ table_visited sort first bytes table count place) where
      visit_length : length after ≡ length table
      visit_length = go (went sort first bytes table count place next v q grown d after a)
        where
          entered_length : after ≡ table_after first (Value (numbering sort)) bytes table count place → length after ≡ length table
          entered_length t = after_length first (Value (numbering sort)) bytes table count these place h.holds s _ _ after refl refl t

          go : Went sort first bytes table count place next v grown after → length after ≡ length table
          go (other o c n t) = rw t
          go (met o k c n t) = entered_length t
          go (entered o k r c n t) = entered_length t
          go (left o k r c n t) = entered_length t

      visit_count : grown ≤ count + 1
      visit_count = go (went sort first bytes table count place next v q grown d after a)
        where
          go : Went sort first bytes table count place next v grown after → grown ≤ count + 1
          go (other o c n t) = omega arith
          go (met o k c n t) = omega (arith, count_known first (Value (numbering sort)) bytes table count these place h.holds s _ _ _ refl refl refl k)
          go (entered o k r c n t) = omega (arith, count_new first (Value (numbering sort)) bytes table count these place h.holds s _ _ _ refl refl refl k r)
          go (left o k r c n t) = omega (arith, count_full first (Value (numbering sort)) bytes table count these place h.holds s _ _ _ refl refl refl k r)

      -- what is left out is so from here on
      next_by : (X : Type 0) → (v.next ≡ next → X) → (length table ≤ count → v.next ≡ lesser next place → X) → X
      next_by X same less = go (went sort first bytes table count place next v q grown d after a)
        where
          go : Went sort first bytes table count place next v grown after → X
          go (other o c n t) = same n
          go (met o k c n t) = same n
          go (entered o k r c n t) = same n
          go (left o k r c n t) = less r n

      pub visit_next : (k : ℕ) → k ≤ place → lesser v.next k ≡ lesser next k
      visit_next k m = next_by (lesser v.next k ≡ lesser next k) (λ e. omega arith) (λ r e. omega arith)

      visit_last : v.next ≤ next
      visit_last = next_by (v.next ≤ next) (λ e. omega arith) (λ r e. omega arith)

      visit_ahead : from < v.next
      visit_ahead = next_by (from < v.next) (λ e. omega (arith, b.ahead)) (λ r e. omega (arith, b.ahead, b.few, b.size, b.roomy))

      -- the table holds the record's number too, unless there was one left out
      module _ (l : place < limit) where
        f : from ≤ place
        f = omega (arith, b.few)

        same_other : (b : Bool) → ltb place next ≡ b → is_of sort (record_at first place bytes) ≡ false → numbers sort (between first from (lesser next (place + 1)) bytes) ≡ these
        unfolding choose
        same_other true e o = rw (more f (ltb-true _ _ e), o) (append-nil these)
        same_other false e o = over (ltb-false _ _ e)

        met_again : (b : Bool) → ltb place next ≡ b → is_of sort (record_at first place bytes) ≡ true → member number these ≡ true
            → (y : List ℕ) → member y these ≡ member y (numbers sort (between first from (lesser next (place + 1)) bytes))
        unfolding choose
        met_again true e o m y = rw (more f (ltb-true _ _ e), o) (member_again number y these m)
        met_again false e o m y = rw (over (ltb-false _ _ e))

        with_new : is_of sort (record_at first place bytes) ≡ true → count < length table → these ++ number ∷ [] ≡ numbers sort (between first from (lesser next (place + 1)) bytes)
        unfolding choose
        with_new o r = sym (rw (more f (past (ltb next limit) refl), o))
          where
            past : (b : Bool) → ltb next limit ≡ b → place < next
            past true e =
                let w = h.full (ltb-true next limit e) in
                absurd (omega arith)
            past false e =
                let w = ltb-false next limit e in
                omega arith

        left_same : numbers sort (between first from (lesser (lesser next place) (place + 1)) bytes) ≡ these
        left_same =
            let e : next - (next - place) - (next - (next - place) - (place + 1)) ≡ next - (next - place) = omega arith in
            rw e

        held_next : Held sort first bytes from limit (place + 1) after grown v.next
        held_next = go (went sort first bytes table count place next v q grown d after a)
          where
            built : (c n : ℕ) (t : List ℕ) → grown ≡ c → v.next ≡ n → after ≡ t → Held sort first bytes from limit (place + 1) t c n
                → Held sort first bytes from limit (place + 1) after grown v.next
            built c n t d m e x = rw (d, m, e) x

            go : Went sort first bytes table count place next v grown after → Held sort first bytes from limit (place + 1) after grown v.next
            go (other o c n t) =
                built count next table c n t (record { holds = rw (same_other _ refl o) h.holds; full = h.full })
            go (met o k c n t) =
                let x = holds_known first (Value (numbering sort)) bytes table count these place h.holds s _ _ _ refl refl refl k in
                let z = count_known first (Value (numbering sort)) bytes table count these place h.holds s _ _ _ refl refl refl k in
                let y = known_is first (Value (numbering sort)) bytes table count these place h.holds s _ _ _ refl refl refl in
                let w = after_length first (Value (numbering sort)) bytes table count these place h.holds s _ _ _ refl refl refl in
                built _ next _ c n t (record {
                  holds = record { tabled = x.tabled; same = λ i. x.same i ∙ met_again _ refl o (sym y ∙ k) i };
                  full = λ m. rw (w, z) (h.full m);
                })
            go (entered o k r c n t) =
                let x = holds_new first (Value (numbering sort)) bytes table count these place h.holds s _ _ _ refl refl refl k r in
                built _ next _ c n t (record {
                  holds = rw (← with_new o r) x;
                  full = λ m. absurd (let w = h.full m in omega arith);
                })
            go (left o k r c n t) =
                let x = holds_full first (Value (numbering sort)) bytes table count these place h.holds s _ _ _ refl refl refl k r in
                let z = count_full first (Value (numbering sort)) bytes table count these place h.holds s _ _ _ refl refl refl k r in
                let w = after_length first (Value (numbering sort)) bytes table count these place h.holds s _ _ _ refl refl refl in
                built _ (lesser next place) _ c n t (record { holds = rw left_same x; full = λ m. rw (w, z) r })

        pub filling_next : Filling room sort first bytes from limit (place + 1) after grown v.next
        filling_next = record {
          table_held = held_next;
          size = visit_length ∙ b.size;
          roomy = b.roomy;
          few = omega (arith, b.few, visit_count);
          ahead = visit_ahead;
          last = omega (arith, b.last, visit_last);
        }
