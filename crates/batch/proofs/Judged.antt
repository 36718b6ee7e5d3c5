-- The state at the end of the walk gives the row of the batch.
-- Assumes nothing.
use Rattle.std.specs.Prelude.{Option, Some, None}
use mathlib.Core.Path.{◌≡◌, refl, sym, ap, ◌∙◌}
use mathlib.Core.Bool.{Bool, true, false, true≢false}
use mathlib.Core.List.{List, [], ◌∷◌, ◌++◌, tail}
use Prim.Native.Nat.{ℕ, suc, ◌+◌, ◌*◌, ◌-◌, ◌/◌, ◌≤◌}
use native.Mathlib.Omega.{arith}
use borrow.Author.Tests.{ltb-false}
use lib.Dec.{ltb}
use lib.ListN.{length, take, drop, get_or}
use lib.Seq.{take_at, length-take-le}
use Rattle.record.specs.Choice.{◌and◌, ◌or◌, choose}
use Rattle.page.specs.CodePage.{shown}
use Rattle.record.specs.Value.{seen}
use Rattle.page.proofs.Shown.{shown_take}
use Rattle.calendar.specs.declared.Day.{Day}
use Rattle.book.specs.Book.{Contents}
use Rattle.nesting.specs.Division.{Record, Batch, payments_onto, batch_lines}
use Rattle.nesting.specs.Records.{line_of, cut}
use Rattle.nesting.proofs.Cuts.{cut_part}
use Rattle.kinds.specs.Kinds.{kinds, crowded}
use Rattle.repeats.specs.declared.Sort.TheVariants.{Payments}
use Rattle.repeats.specs.declared.climb.Climbing.{Climbing}
use Rattle.repeats.specs.Repeats.{numbers, first_repeat}
use Rattle.repeats.specs.Climb.{climbed_by}
use Rattle.repeats.proofs.Looks.{topped_none}
use Rattle.repeats.proofs.Climbs.{climb_other, climb_clean}
use Rattle.batch.specs.declared.Row.{Row}
use Rattle.batch.specs.declared.pass.Told.{Told}
use Rattle.batch.specs.declared.pass.Walked.{Walked}
use Rattle.batch.specs.Batch.{account_count, account_kinds, BatchOf, Judgeable, IsRow, row_of}
use Rattle.batch.specs.Walk.{is_at, opening, run, no_climb, to_trailer, walked_over, walk_of, first_in, crowded_in, is_told, learnt, told_of, row_at}
use Rattle.batch.proofs.Repeated.{header_none, first_repeat_enough}
use Rattle.batch.proofs.Adequate.{adequate}
use Rattle.batch.proofs.Accounts.{batch_kinds, few_accounts}
use Rattle.batch.proofs.Trailers.{to_trailer_holds, records_are}

none≢some : {A : Type 0} {x : A} → ◌≡◌ {A = Option A} None (Some x) → ⊥
none≢some e = cc

-- what is told of a batch is so
pub record Right (n : ℕ) (b : Batch) (told : Told) : Type 0 where
  pub repeat : told.repeat ≡ first_repeat Payments n [] (batch_lines b)
  pub kinds : told.crowded ≡ crowded (account_kinds b.payments)

-- the bytes of so many records
abbrev part_of : List ℕ → ℕ → List ℕ
part_of rest records = take (records * 850) rest

module _ (rest : List ℕ) (n : ℕ) (b : Batch) (h : BatchOf n rest b) where
  -- the records behind the header
  abbrev others : List Record
  others = payments_onto b.payments (b.trailer ∷ [])

  lines_are : batch_lines b ++ h.more ≡ seen (line_of n) (take 850 rest) ∷ cut (n + 1) (length rest / 850 - 1) (drop 850 rest)
  unfolding cut
  lines_are =
      let e : length rest / 850 ≡ suc (length rest / 850 - 1) = omega (arith, records_are h) in
      h.whole ∙ ap (λ (k : ℕ). cut n k rest) e

  header_is : b.header ≡ seen (line_of n) (take 850 rest)
  header_is = ap (λ (rs : List Record). get_or rs 0 []) lines_are

  -- the walk ends with the batch
  others_are : to_trailer (cut (n + 1) (length rest / 850 - 1) (drop 850 rest)) ≡ others
  others_are = ap (λ (rs : List Record). to_trailer (tail rs)) (sym lines_are) ∙ to_trailer_holds b h.legal h.more

  module _ (book : Contents) (today : Option Day) (repeats : Bool) (told : Told) (w : Walked) (e : w ≡ walk_of book today repeats told n rest) where
    walk_is : w ≡ walked_over book told (n + 1) (record { state = opening book today repeats told.crowded n b.header; climbing = no_climb; records = 1 }) others
    unfolding walk_of
    walk_is = e ∙ rw (others_are, header_is)

    state_is : w.state ≡ run book (is_at told.repeat) (n + 1) (opening book today repeats told.crowded n b.header) others
    unfolding walked_over
    state_is = ap (λ (x : Walked). x.state) walk_is

    climbing_is : w.climbing ≡ climbed_by others no_climb
    unfolding walked_over
    climbing_is = ap (λ (x : Walked). x.climbing) walk_is

    size_is : w.records ≡ length (batch_lines b)
    unfolding walked_over
    size_is =
        let q : 1 + length others ≡ length (batch_lines b) = omega arith in
        ap (λ (x : Walked). x.records) walk_is ∙ q

    accounts_are : w.state.accounts ≡ account_count b.payments
    accounts_are = (adequate book today repeats told.crowded (is_at told.repeat) n b h.legal w.state state_is).3

    -- where the Payment IDs climb, none repeats
    climb_told : w.climbing.falls ≡ false → None ≡ first_repeat Payments n [] (batch_lines b)
    unfolding climbed_by numbers
    climb_told f =
        let o = climb_other b.header no_climb refl (header_none b h.legal) in
        let c : (climbed_by (batch_lines b) no_climb).falls ≡ false =
        sym (ap (λ (x : Climbing). (climbed_by others x).falls) o) ∙ sym (ap (λ (x : Climbing). x.falls) climbing_is) ∙ f in
        sym (climb_clean n [] (batch_lines b) no_climb refl (topped_none _) c)

    -- the records of the walk's bytes are the batch's
    part_is : cut n (length (part_of rest w.records) / 850) (part_of rest w.records) ≡ batch_lines b
    part_is =
        let k = length (batch_lines b) in
        let l : length (take (k * 850) rest) ≡ k * 850 = length-take-le (k * 850) rest (omega (arith, records_are h)) in
        let s : length (take (k * 850) rest) / 850 ≡ k = omega (arith, l) in
        let m : n + 0 ≡ n = omega arith in
        let c : take k (cut n (length rest / 850) rest) ≡ cut n k (take (k * 850) rest) =
        cut_part n 0 k (length rest / 850) rest (omega (arith, records_are h)) (omega arith) ∙ ap (λ (j : ℕ). cut j k (take (k * 850) rest)) m in
        rw (size_is, s) (sym c ∙ rw (← h.whole) (take_at (batch_lines b) h.more k refl))

    -- what is learnt after the walk is so, whatever it was told
    learnt_right : Right n b (learnt w.climbing.falls w.state.accounts n (part_of rest w.records))
    unfolding learnt choose ◌and◌
    learnt_right = record { repeat = fell w.climbing.falls refl; kinds = counted (ltb 1000 w.state.accounts) refl }
      where
        fell : (y : Bool) → w.climbing.falls ≡ y → choose y (first_in n (part_of rest w.records)) None ≡ first_repeat Payments n [] (batch_lines b)
        fell true f = ap (first_repeat Payments n []) part_is
        fell false f = climb_told f

        counted : (y : Bool) → ltb 1000 w.state.accounts ≡ y → (y and crowded_in n (part_of rest w.records)) ≡ crowded (account_kinds b.payments)
        counted true f = ap (λ (rs : List Record). crowded (kinds rs)) part_is ∙ ap crowded (batch_kinds b h.legal)
        counted false f = sym (few_accounts b.payments (omega (arith, accounts_are, ltb-false 1000 w.state.accounts f)))

    -- the row of a walk that was told so
    told_row : Right n b told → (row : Row) → row ≡ row_at w.state n w.records → row ≡ row_of book today repeats n b
    unfolding row_at row_of
    told_row t row q =
        let a = adequate book today repeats told.crowded (is_at told.repeat) n b h.legal w.state state_is in
        let m = rw (t.repeat, t.kinds) at a.0 in
        let f = m ∙ first_repeat_enough book today repeats n b h.legal in
        let c = size_is in
        let p = a.1 in
        let s = a.2 in
        q ∙ λ i. record { first_record = n; records = c i; payments = p i; total = s i; finding = f i }

-- what there is to tell of, as the code finds it
module _ (ascii : Bool) (n records : ℕ) (sent : List ℕ) where
  -- in the bytes of the batch, as the code takes them
  abbrev taken : List ℕ
  taken = shown ascii (take (records * 850) sent)

  taken_is : taken ≡ part_of (shown ascii sent) records
  taken_is = shown_take ascii (records * 850) sent

  pub repeat_in : (r : Option ℕ) → r ≡ first_in n taken → r ≡ first_in n (part_of (shown ascii sent) records)
  repeat_in r e = e ∙ ap (λ (xs : List ℕ). first_in n xs) taken_is

  pub crowd_in : (x : Bool) → x ≡ crowded_in n taken → x ≡ crowded_in n (part_of (shown ascii sent) records)
  crowd_in x e = e ∙ ap (λ (xs : List ℕ). crowded_in n xs) taken_is

none_told : (t : Told) → is_told t ≡ false → t ≡ record { repeat = None; crowded = false }
unfolding is_told ◌or◌
none_told t e = go t.repeat t.crowded refl refl
  where
    go : (r : Option ℕ) (c : Bool) → t.repeat ≡ r → t.crowded ≡ c → t ≡ record { repeat = None; crowded = false }
    go r true f g = absurd (true≢false (rw g at e))
    go (Some k) false f g = absurd (true≢false (rw (f, g) at e))
    go None false f g = λ i. record { repeat = f i; crowded = g i }

told_none : (t : Told) → None ≡ told_of t → t ≡ record { repeat = None; crowded = false }
unfolding told_of choose
told_none t e = go (is_told t) refl
  where
    go : (y : Bool) → is_told t ≡ y → t ≡ record { repeat = None; crowded = false }
    go true o = absurd (none≢some (rw o at e))
    go false o = none_told t o

told_some : (t u : Told) → Some u ≡ told_of t → u ≡ t
unfolding told_of choose
told_some t u e = go (is_told t) refl
  where
    go : (y : Bool) → is_told t ≡ y → u ≡ t
    go true o = cc (rw o at e)
    go false o = absurd (none≢some (sym (rw o at e)))

module _ (book : Contents) (today : Option Day) (repeats : Bool) {n : ℕ} {rest : List ℕ} (j : Judgeable n rest) (told : Told) {w : Walked} (e : w ≡ walk_of book today repeats told n rest) where
  -- a walk ends within the bytes
  pub end_within : w.records * 850 ≤ length rest
  end_within = let h = j.batch.1 in omega (arith, size_is rest n j.batch.0 h book today repeats told w e, records_are h)

  pub rest_few : length rest ≤ 65535 * 850
  rest_few = omega (arith, j.few, j.numbered, j.whole)

  pub first_few : n ≤ 65536
  first_few = omega (arith, j.few)

  abbrev found : Told
  found = learnt w.climbing.falls w.state.accounts n (part_of rest w.records)

  right : (b : Batch) → BatchOf n rest b → Right n b found
  right b h = learnt_right rest n b h book today repeats told w e

  -- where there is nothing to tell of, a walk that was told nothing has the row; else one that is told
  pub row_once : told ≡ record { repeat = None; crowded = false } → None ≡ told_of found → (row : Row) → row ≡ row_at w.state n w.records → IsRow book today repeats n rest row
  row_once z o row q b h = told_row rest n b h book today repeats told w e (rw (z ∙ sym (told_none found o)) (right b h)) row q

  pub row_twice : (more : Told) → Some more ≡ told_of found → (v : Walked) → v ≡ walk_of book today repeats more n rest → (row : Row) → row ≡ row_at v.state n v.records
      → IsRow book today repeats n rest row
  row_twice more o v z row q b h = told_row rest n b h book today repeats more v z (rw (told_some found more o) (right b h)) row q
