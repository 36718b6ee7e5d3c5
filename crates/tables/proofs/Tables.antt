-- A table that holds the values entered: what it says of the next, and that it holds it too where there is room.
-- Assumes nothing.
use mathlib.Core.Path.{◌≡◌, refl, sym, ap, ◌∙◌}
use mathlib.Core.Bool.{Bool, true, false}
use mathlib.Core.List.{List, [], ◌∷◌, ◌++◌, append-nil}
use mathlib.Core.Logic.{⊎_elim}
use Prim.Native.Nat.{ℕ, ◌+◌, ◌-◌, ◌≤◌, ◌<◌}
use native.Mathlib.Nat.{eq-zero-or-pos}
use native.Mathlib.Omega.{arith}
use lib.ListN.{length, take, drop, get_or}
use Rattle.std.specs.declared.cmp.Ordering.TheVariants.{Less}
use Rattle.record.specs.Choice.{◌or◌}
use Rattle.page.specs.CodePage.{shown}
use Rattle.record.specs.Tests.{alike}
use Rattle.record.specs.Ordering.{order}
use Rattle.page.proofs.Shown.{shown_length}
use Rattle.record.proofs.Same.{alike_equal}
use Rattle.record.proofs.Orders.{turn_after}
use Rattle.tables.specs.declared.Entry.{Entry}
use Rattle.tables.specs.declared.Key.{Key}
use Rattle.tables.specs.Tables.{Stands, Tabled, value_at, values_at, kept, member, rank, inserted_at, is_known, tells_known, entry_of, count_after, table_after}
use Rattle.tables.proofs.Values.{Parted, rank_parted, parted_after, member_between}
use Rattle.tables.proofs.Inserts.{Source, source, inserted_length, inserted_take, taken}
use Rattle.tables.proofs.Inserts.Source.{under, seated, over}
use Rattle.tables.proofs.Seeks.{key_in, kept_length, kept_at, values_append}
use Rattle.tables.proofs.Enters.{seat_in, known_count, known_table, new_count, new_table, full_count, full_table, entry_known}

-- a record stands among bytes as the rules see them where it stands among those that were sent
pub stands_shown : (ascii : Bool) (first place : ℕ) (xs : List ℕ) → Stands first place xs → Stands first place (shown ascii xs)
stands_shown ascii first place xs s = (omega (arith, s.0, shown_length ascii xs), s.1)

-- one value more
pub member_snoc : (x : List ℕ) (ys : List (List ℕ)) (y : List ℕ) → member x (ys ++ y ∷ []) ≡ (member x ys or alike y x)
member_snoc x ys y = member_between x ys y [] ∙ ap (λ (zs : List (List ℕ)). member x zs or alike y x) (append-nil ys)

-- one that is there already changes nothing
pub member_again : (x y : List ℕ) (ys : List (List ℕ)) → member x ys ≡ true → member y ys ≡ member y (ys ++ x ∷ [])
unfolding ◌or◌
member_again x y ys t = go (alike x y) (member y ys) refl refl
  where
    go : (b m : Bool) → alike x y ≡ b → member y ys ≡ m → member y ys ≡ member y (ys ++ x ∷ [])
    go true m e f = rw (member_snoc y ys x, ← alike_equal x y e, t)
    go false true e f = rw (member_snoc y ys x, e, f)
    go false false e f = rw (member_snoc y ys x, e, f)

-- the answer tells whether the table held the value
pub entry_tells : (first : ℕ) (key : Key) (bytes table : List ℕ) (count place : ℕ) → tells_known (entry_of first key bytes table count place) ≡ is_known first key bytes table count place
unfolding is_known
entry_tells first key bytes table count place = entry_known first key bytes table count place

-- the table is in order, and holds just these values
pub record Holds (first : ℕ) (key : Key) (bytes table : List ℕ) (count : ℕ) (vs : List (List ℕ)) : Type 0 where
  pub tabled : Tabled first key bytes table count
  pub same : (x : List ℕ) → member x (kept first key bytes table count) ≡ member x vs

module _ (first : ℕ) (key : Key) (bytes : List ℕ) where
  pub holds_none : (table : List ℕ) → length table ≤ 65536 → Holds first key bytes table 0 []
  unfolding values_at
  holds_none table h = record {
    tabled = record { size = omega arith; few = h; stand = λ i l. absurd (omega arith); ascending = λ i j l k. absurd (omega arith) };
    same = λ x. refl;
  }

  -- a new value at its seat
  module _ (table : List ℕ) (count place : ℕ) (t : Tabled first key bytes table count) (n : member (value_at first key bytes place) (kept first key bytes table count) ≡ false) (room : count < length table) where
    abbrev x : List ℕ
    x = value_at first key bytes place

    abbrev seat : ℕ
    seat = rank x (kept first key bytes table count)

    abbrev after : List ℕ
    after = inserted_at table count seat place

    seat_fits : seat ≤ count
    seat_fits = seat_in first key bytes table count place seat t refl

    parted : Parted x (kept first key bytes table count) seat
    parted =
        rank_parted x _ (λ i j l h.
        let k : j < count = omega (arith, kept_length first key bytes table count t.size) in
        rw (kept_at first key bytes table count t.size i (omega arith), kept_at first key bytes table count t.size j k) (t.ascending i j l k))

    lower : (j : ℕ) → j < seat → order (key_in first key bytes table j) x ≡ Less
    lower j h = rw (← kept_at first key bytes table count t.size j (omega (arith, seat_fits))) (parted.below j h)

    upper : (j : ℕ) → seat ≤ j → j < count → order x (key_in first key bytes table j) ≡ Less
    upper j l h =
        let k : j < length (kept first key bytes table count) = omega (arith, kept_length first key bytes table count t.size) in
        turn_after _ _ (rw (← kept_at first key bytes table count t.size j h) (parted_after x _ seat parted n j l k))

    inserted_tabled : Stands first place bytes → Tabled first key bytes after (count + 1)
    inserted_tabled s = record {
      size = rw (inserted_length table count seat place seat_fits room) (omega arith);
      few = rw (inserted_length table count seat place seat_fits room) t.few;
      stand = λ i l. standing i (omega arith) (from i (omega arith));
      ascending = λ i j l h. rising i j l (omega arith) (from i (omega arith)) (from j (omega arith));
    }
      where
        from : (j : ℕ) → j ≤ count → Source table count seat place seat_fits room j
        from j h = source table count seat place seat_fits room j h

        standing : (j : ℕ) → j ≤ count → Source table count seat place seat_fits room j → Stands first (get_or after j 0) bytes
        standing j h (under l e) = rw e (t.stand j (omega (arith, seat_fits)))
        standing j h (seated l e) = rw e s
        standing j h (over l e) = rw e (t.stand (j - 1) (omega arith))

        rising : (i j : ℕ) → i < j → j ≤ count → Source table count seat place seat_fits room i → Source table count seat place seat_fits room j → order (key_in first key bytes after i) (key_in first key bytes after j) ≡ Less
        rising i j l h (under a e) (under b f) = rw (e, f) (t.ascending i j l (omega (arith, seat_fits)))
        rising i j l h (under a e) (seated b f) = rw (e, f) (lower i a)
        rising i j l h (under a e) (over b f) = rw (e, f) (t.ascending i (j - 1) (omega arith) (omega arith))
        rising i j l h (seated a e) (under b f) = absurd (omega arith)
        rising i j l h (seated a e) (seated b f) = absurd (omega arith)
        rising i j l h (seated a e) (over b f) = rw (e, f) (upper (j - 1) (omega arith) (omega arith))
        rising i j l h (over a e) (under b f) = absurd (omega arith)
        rising i j l h (over a e) (seated b f) = absurd (omega arith)
        rising i j l h (over a e) (over b f) = rw (e, f) (t.ascending (i - 1) (j - 1) (omega arith) (omega arith))

    inserted_member : (y : List ℕ) → member y (kept first key bytes after (count + 1)) ≡ (member y (kept first key bytes table count) or alike x y)
    unfolding values_at
    inserted_member y =
        ap (λ (ps : List ℕ). member y (values_at first key bytes ps)) (inserted_take table count seat place seat_fits room)
        ∙ ap (member y) (values_append first key bytes (take seat table) (place ∷ take (count - seat) (drop seat table)))
        ∙ member_between y (values_at first key bytes (take seat table)) x (values_at first key bytes (take (count - seat) (drop seat table)))
        ∙ ap (λ (vs : List (List ℕ)). member y vs or alike x y) (sym (values_append first key bytes (take seat table) (take (count - seat) (drop seat table))))
        ∙ ap (λ (ps : List ℕ). member y (values_at first key bytes ps) or alike x y) (taken table count seat place seat_fits room)

  -- a record is entered
  module _ (table : List ℕ) (count : ℕ) (vs : List (List ℕ)) (place : ℕ) (h : Holds first key bytes table count vs) (s : Stands first place bytes) (e : Entry) (n : ℕ) (after : List ℕ) (r : e ≡ entry_of first key bytes table count place) (c : n ≡ count_after first key bytes table count place) (a : after ≡ table_after first key bytes table count place) where
    known_in : tells_known e ≡ member (value_at first key bytes place) (kept first key bytes table count)
    known_in = ap tells_known r ∙ entry_known first key bytes table count place

    pub known_is : tells_known e ≡ member (value_at first key bytes place) vs
    known_is = known_in ∙ h.same (value_at first key bytes place)

    pub count_known : tells_known e ≡ true → n ≡ count
    count_known k = c ∙ sym (known_count first key bytes table count place (tells_known e) known_in k)

    pub holds_known : tells_known e ≡ true → Holds first key bytes after n vs
    holds_known k = rw (count_known k, a, ← known_table first key bytes table count place (tells_known e) known_in k) h

    module _ (k : tells_known e ≡ false) where
      pub count_new : count < length table → n ≡ count + 1
      count_new l = c ∙ sym (new_count first key bytes table count place (tells_known e) known_in k l)

      pub holds_new : count < length table → Holds first key bytes after n (vs ++ value_at first key bytes place ∷ [])
      holds_new l =
          rw (count_new l, a, ← new_table first key bytes table count place (tells_known e) known_in _ _ k l refl refl)
          (record {
            tabled = inserted_tabled table count place h.tabled (sym known_in ∙ k) l s;
            same = λ y.
                inserted_member table count place h.tabled (sym known_in ∙ k) l y
                ∙ ap (λ (b : Bool). b or alike (value_at first key bytes place) y) (h.same y)
                ∙ sym (member_snoc y vs (value_at first key bytes place));
          })

      pub count_full : length table ≤ count → n ≡ count
      count_full l = c ∙ sym (full_count first key bytes table count place (tells_known e) known_in k l)

      pub holds_full : length table ≤ count → Holds first key bytes after n vs
      holds_full l = rw (count_full l, a, ← full_table first key bytes table count place (tells_known e) known_in k l) h

    pub after_length : length after ≡ length table
    after_length = go (tells_known e) refl
      where
        go : (b : Bool) → tells_known e ≡ b → length after ≡ length table
        go true k = rw (a, ← known_table first key bytes table count place (tells_known e) known_in k)
        go false k =
            ⊎_elim
            (λ (q : length table - count ≡ 0). rw (a, ← full_table first key bytes table count place (tells_known e) known_in k (omega arith)))
            (λ (q : 0 < length table - count).
            rw (a, ← new_table first key bytes table count place (tells_known e) known_in _ _ k (omega arith) refl refl)
            (inserted_length table count _ place (seat_in first key bytes table count place _ h.tabled refl) (omega arith)))
            (eq-zero-or-pos (length table - count))
