-- A search in a table: the values by their places, and where a record's value stands among them.
-- Assumes nothing.
use mathlib.Core.Path.{◌≡◌, refl, sym, ap, subst, ◌∙◌}
use mathlib.Core.Bool.{Bool, true, false}
use mathlib.Core.List.{List, [], ◌∷◌, ◌++◌}
use mathlib.Core.Logic.{⊎_elim}
use Prim.Native.Nat.{ℕ, zero, suc, ◌+◌, ◌*◌, ◌≤◌, ◌<◌}
use native.Mathlib.Nat.{eq-or-lt_of_le}
use native.Mathlib.Omega.{arith}
use lib.ListN.{length, take, get_or}
use lib.Seq.{length-take-le, get_or-take}
use Rattle.record.specs.declared.Field.{Field}
use Rattle.std.specs.declared.cmp.Ordering.{Ordering}
use Rattle.std.specs.declared.cmp.Ordering.TheVariants.{Less, Equal, Greater}
use Rattle.page.specs.CodePage.{shown}
use Rattle.record.specs.Value.{held}
use Rattle.record.specs.Ordering.{order, is_before}
use Rattle.page.proofs.Shown.{shown_length}
use Rattle.record.proofs.Bracket.{Bracket, middle, raised, lowered, same_is, same_below, same_above, end_above, end_none}
use Rattle.nesting.proofs.Cuts.{bytes_from, record_from, from_place, from_length}
use Rattle.tables.specs.declared.Key.{Key}
use Rattle.tables.specs.declared.Key.TheVariants.{Value, Kind}
use Rattle.tables.specs.Kind.{kind}
use Rattle.tables.specs.Tables.{Stands, InRecord, Tabled, value_at, values_at, kept, member, rank}
use Rattle.tables.proofs.Values.{Parted, parted_rank, member_at, member_none, after_tells, same_tells}

-- the field of a key lies in a record, as the code takes it
module _ (key : Key) (field : Field) (e : key ≡ Value field) (i : InRecord key) where
  inside : InRecord (Value field)
  inside = subst InRecord e i

  pub value_start : 1 ≤ field.start
  value_start = inside.0

  pub value_end : (place : ℕ) (xs : List ℕ) → place * 850 + 850 ≤ length xs → field.start + field.width ≤ length (bytes_from xs (place * 850)) + 1
  value_end place xs h = rw (from_length xs (place * 850) h) inside.1

-- how two values stand to each other, as the code reads them
module _ (ascii : Bool) (first place other : ℕ) (key : Key) (xs : List ℕ) (r : Ordering) where
  pub ordered_values : (field : Field) → key ≡ Value field → r ≡ order (held (record_from ascii xs (place * 850)) field) (held (record_from ascii xs (other * 850)) field)
      → r ≡ order (value_at first key (shown ascii xs) place) (value_at first key (shown ascii xs) other)
  ordered_values field e h = h ∙ rw (e, from_place ascii first place xs, from_place ascii first other xs)

  pub ordered_kinds : key ≡ Kind → r ≡ order (kind (record_from ascii xs (place * 850))) (kind (record_from ascii xs (other * 850)))
      → r ≡ order (value_at first key (shown ascii xs) place) (value_at first key (shown ascii xs) other)
  ordered_kinds e h = h ∙ rw (e, from_place ascii first place xs, from_place ascii first other xs)

module _ (first : ℕ) (key : Key) (bytes : List ℕ) where
  values_length : (ps : List ℕ) → length (values_at first key bytes ps) ≡ length ps
  unfolding values_at
  values_length [] = refl
  values_length (p ∷ ps) = ap suc (values_length ps)

  values_at_holds : (ps : List ℕ) (j : ℕ) → j < length ps → get_or (values_at first key bytes ps) j [] ≡ value_at first key bytes (get_or ps j 0)
  unfolding values_at
  values_at_holds [] j h = absurd (omega arith)
  values_at_holds (p ∷ ps) zero h = refl
  values_at_holds (p ∷ ps) (suc j) h = values_at_holds ps j (omega arith)

  pub values_append : (ps qs : List ℕ) → values_at first key bytes (ps ++ qs) ≡ values_at first key bytes ps ++ values_at first key bytes qs
  unfolding values_at
  values_append [] qs = refl
  values_append (p ∷ ps) qs = ap (λ (vs : List (List ℕ)). value_at first key bytes p ∷ vs) (values_append ps qs)

  -- the value at seat j of a table
  abbrev pub key_in : List ℕ → ℕ → List ℕ
  key_in table j = value_at first key bytes (get_or table j 0)

  module _ (table : List ℕ) (count : ℕ) (s : count ≤ length table) where
    pub kept_length : length (kept first key bytes table count) ≡ count
    kept_length = values_length (take count table) ∙ length-take-le count table s

    pub kept_at : (j : ℕ) → j < count → get_or (kept first key bytes table count) j [] ≡ key_in table j
    kept_at j h =
        values_at_holds (take count table) j (omega (arith, length-take-le count table s))
        ∙ ap (λ (p : ℕ). value_at first key bytes p) (get_or-take count table j 0 h)

  -- what a search for the value of a record knows
  abbrev pub Sought : List ℕ → ℕ → ℕ → ℕ → ℕ → Type 0
  Sought table count place low high = Bracket (key_in table) count (value_at first key bytes place) low high

  module _ (table : List ℕ) (count place : ℕ) (t : Tabled first key bytes table count) where
    abbrev x : List ℕ
    x = value_at first key bytes place

    -- by the keys of a table
    parted_by : (m : ℕ) → m ≤ count → ((j : ℕ) → j < m → order (key_in table j) x ≡ Less) → ((j : ℕ) → m ≤ j → j < count → is_before (order (key_in table j) x) ≡ false) → Parted x (kept first key bytes table count) m
    parted_by m h b a = record {
      size = omega (arith, kept_length table count t.size);
      below = λ j l. rw (kept_at table count t.size j (omega arith)) (b j l);
      from = λ j l k.
          let n : j < count = omega (arith, kept_length table count t.size) in
          rw (kept_at table count t.size j n) (a j l n);
    }

    -- where it meets the value
    module _ (m : ℕ) (h : m < count) (e : order (key_in table m) x ≡ Equal) where
      taken_rank : m ≡ rank x (kept first key bytes table count)
      taken_rank =
          parted_rank _ _ _ (parted_by m (omega arith) (same_below (key_in table) count x t.ascending m e h) (λ j l n.
          ⊎_elim
          (λ (i : m ≡ j). rw (← i) (same_tells _ e))
          (λ (i : m < j). after_tells _ (same_above (key_in table) count x t.ascending m e j i n))
          (eq-or-lt_of_le l)))

      taken_known : true ≡ member x (kept first key bytes table count)
      taken_known =
          sym (member_at _ _ m (omega (arith, kept_length table count t.size)) (kept_at table count t.size m h ∙ same_is (key_in table) count x t.ascending m e))

    module _ (low high : ℕ) (b : Sought table count place low high) where
      -- the record that is looked at next, and how its value r stands to that which is sought
      module _ (h : low < high) where
        next_stands : Stands first (get_or table (middle low high) 0) bytes
        next_stands = t.stand (middle low high) (omega (arith, b.inside))

        module _ (r : Ordering) (e : r ≡ order (key_in table (middle low high)) x) where
          pub sought_raised : r ≡ Less → Sought table count place (middle low high + 1) high
          sought_raised q = raised (key_in table) count x t.ascending (middle low high) low high b (omega arith) (sym e ∙ q)

          pub sought_lowered : r ≡ Greater → Sought table count place low (middle low high)
          sought_lowered q = lowered (key_in table) count x t.ascending (middle low high) low high b (omega arith) (omega arith) (sym e ∙ q)

          pub seat_taken : r ≡ Equal → middle low high ≡ rank x (kept first key bytes table count)
          seat_taken q = taken_rank (middle low high) (omega (arith, b.inside)) (sym e ∙ q)

          pub value_known : r ≡ Equal → true ≡ member x (kept first key bytes table count)
          value_known q = taken_known (middle low high) (omega (arith, b.inside)) (sym e ∙ q)

      -- nothing is left
      module _ (e : high ≤ low) where
        pub seat_free : low ≡ rank x (kept first key bytes table count)
        seat_free =
            parted_rank _ _ _ (parted_by low (omega (arith, b.ordered, b.inside)) b.below (λ j l h. after_tells _ (end_above _ _ _ _ _ b e j l h)))

        pub value_new : false ≡ member x (kept first key bytes table count)
        value_new =
            sym (member_none _ _ (λ j l q.
            let n : j < count = omega (arith, kept_length table count t.size) in
            end_none _ _ _ _ _ b e j n (sym (kept_at table count t.size j n) ∙ q)))

-- the record that is looked at next stands among the bytes that were sent
pub next_sent : (ascii : Bool) (first : ℕ) (key : Key) (xs table : List ℕ) (count place : ℕ) → Tabled first key (shown ascii xs) table count
    → (low high : ℕ) → Sought first key (shown ascii xs) table count place low high → low < high → Stands first (get_or table (middle low high) 0) xs
next_sent ascii first key xs table count place t low high b h =
    let s = next_stands first key (shown ascii xs) table count place t low high b h in
    (omega (arith, s.0, shown_length ascii xs), s.1)
