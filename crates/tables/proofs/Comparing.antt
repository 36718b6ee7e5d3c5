-- Two kinds, field by field: what lies before the first byte that differs as it was sent is the same, and what is left decides.
-- Assumes nothing.
use mathlib.Core.Path.{◌≡◌, refl, sym, ap, ◌∙◌}
use mathlib.Core.Bool.{Bool, true, false}
use mathlib.Core.List.{List, [], ◌∷◌, ◌++◌}
use Prim.Native.Nat.{ℕ, zero, suc, ◌+◌, ◌-◌, ◌≤◌, ◌<◌}
use native.Mathlib.Numerals.{add-one}
use native.Mathlib.Omega.{arith}
use borrow.Author.Rules.{rules}
use borrow.Author.Tests.{eq-eqb, ne_eqb, eqb-true}
use lib.Dec.{eqb, ltb}
use lib.ListN.{length, take, drop, get_or, length-take, length-drop, drop_of_length-le}
use lib.Seq.{drop-cons, take-take, drop-drop, get_or-take, get_or-drop}
use Rattle.record.specs.declared.Field.{Field}
use Rattle.std.specs.declared.cmp.Ordering.{Ordering}
use Rattle.std.specs.declared.cmp.Ordering.TheVariants.{Less, Equal, Greater}
use Rattle.page.specs.CodePage.{shown}
use Rattle.record.specs.Choice.{choose}
use Rattle.record.specs.Fields.{fixed, business_event_type_code}
use Rattle.record.specs.Value.{held}
use Rattle.record.specs.Ordering.{order}
use Rattle.record.specs.Layout.{layout, position_in}
use Rattle.record.proofs.Held.{held_length, held_alike, written_shown}
use Rattle.record.proofs.Orders.{order_self}
use Rattle.tables.specs.Kind.{kind_fields, held_by, kind}
use Rattle.tables.specs.Comparing.{stretch, common, kind_field, Under}

-- the bytes that two lists have in common, from the front: what is left from i on decides
unfoldable pub Ahead : List ℕ → List ℕ → ℕ → Type 0
Ahead xs ys i = common xs ys ≡ i + common (drop i xs) (drop i ys)

ahead_none : (xs ys : List ℕ) → Ahead xs ys 0
unfolding Ahead
ahead_none xs ys = omega arith

module _ (xs ys : List ℕ) (i : ℕ) (nx : i < length xs) (ny : i < length ys) where
  ahead_next : get_or xs i 0 ≡ get_or ys i 0 → Ahead xs ys i → Ahead xs ys (i + 1)
  unfolding Ahead common choose
  ahead_next t l = l ∙ rw (add-one, drop-cons xs i 0, drop-cons ys i 0, eq-eqb (get_or xs i 0) (get_or ys i 0) t) (omega arith)

  ahead_stop : (get_or xs i 0 ≡ get_or ys i 0 → ⊥) → Ahead xs ys i → i ≡ common xs ys
  unfolding Ahead common choose
  ahead_stop t l = sym (l ∙ rw (drop-cons xs i 0, drop-cons ys i 0, ne_eqb (get_or xs i 0) (get_or ys i 0) t) (omega arith))

ahead_end : (xs ys : List ℕ) (i : ℕ) → length xs ≤ i → Ahead xs ys i → i ≡ common xs ys
unfolding Ahead common
ahead_end xs ys i h l = sym (l ∙ rw (drop_of_length-le xs) (omega arith))

common_few : (xs ys : List ℕ) → common xs ys ≤ length xs
unfolding common choose
common_few [] ys = omega arith
common_few (x ∷ xs) [] = omega arith
common_few (x ∷ xs) (y ∷ ys) = go (eqb x y) (common_few xs ys)
  where
    go : (b : Bool) → common xs ys ≤ length xs → choose b (suc (common xs ys)) 0 ≤ suc (length xs)
    go true h = omega arith
    go false h = omega arith

common_same : (xs ys : List ℕ) → take (common xs ys) xs ≡ take (common xs ys) ys
unfolding common choose
common_same [] ys = refl
common_same (x ∷ xs) [] = refl
common_same (x ∷ xs) (y ∷ ys) = go (eqb x y) refl (common_same xs ys)
  where
    go : (b : Bool) → eqb x y ≡ b → take (common xs ys) xs ≡ take (common xs ys) ys → take (choose b (suc (common xs ys)) 0) (x ∷ xs) ≡ take (choose b (suc (common xs ys)) 0) (y ∷ ys)
    go true e t =
        let h : x ≡ y = eqb-true x y e in
        λ i. h i ∷ t i
    go false e t = refl

-- the stretch of a record
stretch_length : (rec : List ℕ) → length rec ≡ 850 → length (stretch rec) ≡ 32
unfolding stretch
stretch_length rec n = simp (length-take, length-drop) (omega arith)

stretch_at : (rec : List ℕ) (i : ℕ) → i < 32 → get_or (stretch rec) i 0 ≡ get_or rec (22 + i) 0
unfolding stretch
stretch_at rec i h = get_or-take 32 (drop 22 rec) i 0 h ∙ get_or-drop 22 rec i 0

-- of two records, as the code reads them: what is left from i on decides
abbrev pub Agreed : List ℕ → List ℕ → ℕ → Type 0
Agreed rec other i = Ahead (stretch rec) (stretch other) i

pub agreed_none : (rec other : List ℕ) → Agreed rec other 0
agreed_none rec other = ahead_none (stretch rec) (stretch other)

module _ (rec other : List ℕ) (n : length rec ≡ 850) (m : length other ≡ 850) (i : ℕ) (l : Agreed rec other i) where
  module _ (h : i < 32) where
    pub agreed_next : get_or rec (22 + i) 0 ≡ get_or other (22 + i) 0 → Agreed rec other (i + 1)
    agreed_next t =
        ahead_next (stretch rec) (stretch other) i (omega (arith, stretch_length rec n)) (omega (arith, stretch_length other m)) (stretch_at rec i h ∙ t ∙ sym (stretch_at other i h)) l

    pub agreed_stop : (get_or rec (22 + i) 0 ≡ get_or other (22 + i) 0 → ⊥) → i ≡ common (stretch rec) (stretch other)
    agreed_stop t =
        ahead_stop (stretch rec) (stretch other) i (omega (arith, stretch_length rec n)) (omega (arith, stretch_length other m)) (λ e. t (sym (stretch_at rec i h) ∙ e ∙ stretch_at other i h)) l

  pub agreed_end : i ≤ 32 → 32 ≤ i → 32 ≡ common (stretch rec) (stretch other)
  agreed_end h k =
      let e : 32 ≡ i = omega arith in
      e ∙ ahead_end (stretch rec) (stretch other) i (omega (arith, stretch_length rec n)) l

-- a part of the beginning is a part of the whole
within : (d w n : ℕ) (xs : List ℕ) → d + w ≤ n → take w (drop d (take n xs)) ≡ take w (drop d xs)
within zero w n xs h = take-take w n xs (omega arith)
within (suc d) w zero xs h = absurd (omega arith)
within (suc d) w (suc n) [] h = refl
within (suc d) w (suc n) (x ∷ xs) h = within d w n xs (omega arith)

-- where a field's bytes were sent alike, it holds the same
sent_held : (ascii : Bool) (rec other : List ℕ) (f : Field) → take f.width (drop (f.start - 1) rec) ≡ take f.width (drop (f.start - 1) other)
    → held (shown ascii rec) f ≡ held (shown ascii other) f
sent_held ascii rec other f e = held_alike (shown ascii rec) (shown ascii other) f (sym (written_shown ascii rec f) ∙ ap (shown ascii) e ∙ written_shown ascii other f)

-- a field that lies within the stretch, in its bytes
stretch_part : (rec : List ℕ) (f : Field) → 23 ≤ f.start → f.start + f.width ≤ 55 → take f.width (drop (f.start - 23) (stretch rec)) ≡ take f.width (drop (f.start - 1) rec)
unfolding stretch
stretch_part rec f h l =
    let e : 22 + (f.start - 23) ≡ f.start - 1 = omega arith in
    within (f.start - 23) f.width 32 (drop 22 rec) (omega arith)
    ∙ ap (take f.width) (drop-drop (f.start - 23) 22 rec ∙ ap (λ (n : ℕ). drop n rec) e)

-- the fields of a kind, each within its stretch
kind_under : Under 32 kind_fields
unfolding Under kind_fields layout position_in choose
kind_under = search rules

under_at : (n : ℕ) (fs : List Field) (k : ℕ) (d : Field) → Under n fs → k < length fs → (23 ≤ (get_or fs k d).start) × ((get_or fs k d).start + (get_or fs k d).width ≤ 23 + n)
unfolding Under
under_at n [] k d u h = absurd (omega arith)
under_at n (f ∷ fs) zero d u h = (u.0, u.1)
under_at n (f ∷ fs) (suc k) d u h = under_at n fs k d u.2 (omega arith)

fields_nine : length kind_fields ≡ 9
unfolding kind_fields
fields_nine = refl

module _ (k : ℕ) (h : k < 9) (f : Field) (e : f ≡ kind_field k) where
  lies : (23 ≤ f.start) × (f.start + f.width ≤ 55)
  unfolding kind_field
  lies = rw e (under_at 32 kind_fields k (fixed 1 0) kind_under (omega (arith, fields_nine)))

  pub has_start : 1 ≤ f.start
  has_start = omega (arith, lies.0)

  pub has_end : (rec : List ℕ) → length rec ≡ 850 → f.start + f.width ≤ length rec + 1
  has_end rec n = omega (arith, lies.1)

-- what the last arm knows: none of the fields before
past_three : (k : ℕ) → (k ≡ 0 → ⊥) → (k ≡ 1 → ⊥) → (k ≡ 2 → ⊥) → (k ≡ 3 → ⊥) → 4 ≤ k
past_three k n0 n1 n2 n3 = omega arith

past_seven : (k : ℕ) → 4 ≤ k → (k ≡ 4 → ⊥) → (k ≡ 5 → ⊥) → (k ≡ 6 → ⊥) → (k ≡ 7 → ⊥) → 8 ≤ k
past_seven k h n4 n5 n6 n7 = omega arith

last_at : (k : ℕ) → k < 9 → 8 ≤ k → business_event_type_code ≡ kind_field k
unfolding kind_field kind_fields layout position_in choose
last_at k h l =
    let e : k ≡ 8 = omega arith in
    rw e

pub last_field : (k : ℕ) → k < 9 → (k ≡ 0 → ⊥) → (k ≡ 1 → ⊥) → (k ≡ 2 → ⊥) → (k ≡ 3 → ⊥) → (k ≡ 4 → ⊥) → (k ≡ 5 → ⊥) → (k ≡ 6 → ⊥) → (k ≡ 7 → ⊥)
    → business_event_type_code ≡ kind_field k
last_field k h n0 n1 n2 n3 n4 n5 n6 n7 = last_at k h (past_seven k (past_three k n0 n1 n2 n3) n4 n5 n6 n7)

-- the first of two orders that is not the same
unfoldable deciding : Ordering → Ordering → Ordering
deciding Less o = Less
deciding Equal o = o
deciding Greater o = Greater

beside : (xs ys us vs : List ℕ) → length xs ≡ length ys → order (xs ++ us) (ys ++ vs) ≡ deciding (order xs ys) (order us vs)
unfolding order deciding choose
beside [] [] us vs n = refl
beside [] (y ∷ ys) us vs n = absurd (omega arith)
beside (x ∷ xs) [] us vs n = absurd (omega arith)
beside (x ∷ xs) (y ∷ ys) us vs n = go (ltb x y) (ltb y x) (beside xs ys us vs (omega arith))
  where
    go : (a b : Bool) → order (xs ++ us) (ys ++ vs) ≡ deciding (order xs ys) (order us vs)
        → choose a Less (choose b Greater (order (xs ++ us) (ys ++ vs))) ≡ deciding (choose a Less (choose b Greater (order xs ys))) (order us vs)
    go true b m = refl
    go false true m = refl
    go false false m = m

-- of two records of one file, the kinds' fields from k on decide
module _ (ascii own : Bool) (rec other : List ℕ) where
  abbrev a : List ℕ
  a = shown ascii rec

  abbrev b : List ℕ
  b = shown own other

  unfoldable pub Left : ℕ → Type 0
  Left k = order (kind a) (kind b) ≡ order (held_by a (drop k kind_fields)) (held_by b (drop k kind_fields))

  -- fields that were sent alike
  module _ (t : ascii ≡ own) (n : ℕ) (h : n ≤ 32) (e : take n (stretch rec) ≡ take n (stretch other)) where
    sent_alike : (f : Field) → 23 ≤ f.start → f.start + f.width ≤ 23 + n → held a f ≡ held b f
    sent_alike f s l =
        rw (← t)
        (sent_held ascii rec other f
        (sym (stretch_part rec f s (omega arith))
        ∙ sym (within (f.start - 23) f.width n (stretch rec) (omega arith))
        ∙ ap (λ (xs : List ℕ). take f.width (drop (f.start - 23) xs)) e
        ∙ within (f.start - 23) f.width n (stretch other) (omega arith)
        ∙ stretch_part other f s (omega arith)))

    skipped : (fs : List Field) (k : ℕ) → Under n (take k fs) → order (held_by a fs) (held_by b fs) ≡ order (held_by a (drop k fs)) (held_by b (drop k fs))
    unfolding Under held_by deciding
    skipped fs zero u = refl
    skipped [] (suc k) u = refl
    skipped (f ∷ fs) (suc k) u =
        let q : held a f ≡ held b f = sent_alike f u.0 u.1 in
        beside (held a f) (held b f) (held_by a fs) (held_by b fs) (ap length q) ∙ rw (q, order_self (held b f)) (skipped fs k u.2)

  pub left_from : (n k : ℕ) → ascii ≡ own → length rec ≡ 850 → n ≡ common (stretch rec) (stretch other) → Under n (take k kind_fields) → Left k
  unfolding Left kind
  left_from n k t m e u =
      let q : take n (stretch rec) ≡ take n (stretch other) = rw e (common_same (stretch rec) (stretch other)) in
      skipped t n (omega (arith, common_few (stretch rec) (stretch other), stretch_length rec m)) q kind_fields k u

  -- the field at k
  module _ (m : length rec ≡ 850) (n : length other ≡ 850) (k : ℕ) (l : Left k) where
    module _ (h : k < 9) (f : Field) (e : f ≡ kind_field k) where
      abbrev rest : Ordering
      rest = order (held_by a (drop (suc k) kind_fields)) (held_by b (drop (suc k) kind_fields))

      left_here : order (kind a) (kind b) ≡ deciding (order (held a f) (held b f)) rest
      unfolding Left held_by kind_field
      left_here =
          let c : k < length kind_fields = omega (arith, fields_nine) in
          let w = held_length ascii rec f (has_start k h f e, has_end k h f e rec m) in
          let v = held_length own other f (has_start k h f e, has_end k h f e other n) in
          l ∙ rw (drop-cons kind_fields k (fixed 1 0), ← e) (beside (held a f) (held b f) _ _ (w ∙ sym v))

      module _ (r : Ordering) (q : r ≡ order (held a f) (held b f)) where
        left_before : r ≡ Less → Less ≡ order (kind a) (kind b)
        unfolding deciding
        left_before t = sym (left_here ∙ rw (← q, t))

        left_after : r ≡ Greater → Greater ≡ order (kind a) (kind b)
        unfolding deciding
        left_after t = sym (left_here ∙ rw (← q, t))

        pub left_found : (r ≡ Equal → ⊥) → r ≡ order (kind a) (kind b)
        left_found t = go r refl
          where
            go : (o : Ordering) → r ≡ o → r ≡ order (kind a) (kind b)
            go Less e = e ∙ left_before e
            go Equal e = absurd (t e)
            go Greater e = e ∙ left_after e

        pub left_next : r ≡ Equal → Left (k + 1)
        unfolding Left deciding
        left_next t = left_here ∙ rw (← q, t, add-one)

    pub left_end : 9 ≤ k → Equal ≡ order (kind a) (kind b)
    unfolding Left held_by order
    left_end h =
        let c : length kind_fields ≤ k = omega (arith, fields_nine) in
        sym (l ∙ rw (drop_of_length-le kind_fields))
