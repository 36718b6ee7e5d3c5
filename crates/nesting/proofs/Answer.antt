-- What the reader says of the records that are left is what may follow where it stands.
-- Assumes nothing.
use mathlib.Core.Path.{◌≡◌, refl, sym, ◌∙◌, ap, subst}
use mathlib.Core.Logic.{◌⊎◌, inl, inr}
use mathlib.Core.Bool.{Bool, true, false, true≢false}
use mathlib.Core.List.{List, [], ◌∷◌, ◌++◌}
use Prim.Native.Nat.{ℕ, zero, suc, ◌+◌, ◌<◌, ◌≤◌}
use native.Mathlib.Omega.{arith}
use lib.ListN.{length, take, drop, get_or}
use Rattle.record.specs.Choice.{choose}
use Rattle.nesting.specs.declared.Counts.{Counts}
use Rattle.std.specs.Prelude.{Result, Ok, Err}
use Rattle.nesting.specs.declared.reader.Place.TheVariants.{Start, FileClosed}
use Rattle.nesting.specs.declared.reader.State.{State}
use Rattle.nesting.specs.Division.{Record, All, Whole, Division, DivisionOf, Divided, Begins, payment_count}
use Rattle.nesting.specs.Promise.{Nested}
use Rattle.nesting.specs.Promise.Nested.{legal, refused}
use Rattle.nesting.specs.Reader.{is_at, follows, after, start, counted, read_on}
use Rattle.nesting.proofs.Coding.{at_place}
use Rattle.nesting.proofs.Rest.{Rest, at, from}
use Rattle.nesting.proofs.Steps.{move, here, fitting}
use Rattle.nesting.proofs.Forward.{prepend}
use Rattle.nesting.proofs.Backward.{Turned, turn}
use Rattle.nesting.proofs.Live.{Sane, sane_start, sane_after, Leads, live}

-- the first record of what may follow fits, and the others may follow it
stepped : (s : State) (r : Record) (rs : List Record) (B P : ℕ) → Rest s B P (r ∷ rs) → (follows s r ≡ true) × Rest (after s r) B P rs
stepped s r rs B P h = go (turn s B P (r ∷ rs) h)
  where
    go : (s.place ≡ FileClosed) ⊎ Turned s B P (r ∷ rs) → (follows s r ≡ true) × Rest (after s r) B P rs
    go (inl e) = absurd (omega (arith, ap length (from s B P (r ∷ rs) FileClosed e h).whole))
    go (inr t) =
        let x : t.first ≡ r = ap (λ (l : List Record). get_or l 0 []) t.whole in
        let y : t.rest ≡ rs = ap (λ (l : List Record). drop 1 l) t.whole in
        (subst (λ (q : Record). follows s q ≡ true) x (fitting s t.first t.moves), rw (x, y) at t.left)

-- where nothing may follow, the file is closed
ended : (s : State) (B P : ℕ) → Rest s B P [] → is_at s FileClosed ≡ true
ended s B P h = go (turn s B P [] h)
  where
    go : (s.place ≡ FileClosed) ⊎ Turned s B P [] → is_at s FileClosed ≡ true
    go (inl e) = here s FileClosed e
    go (inr t) = absurd (omega (arith, ap length t.whole))

-- nothing may follow but after fewer than k of the records
record Stopped (s : State) (rs : List Record) (k : ℕ) : Type 0 where
  none : (B P : ℕ) → Rest s B P rs → ⊥
  some : 1 ≤ k
  within : k ≤ length rs + 1
  before : (i : ℕ) → i < k → Leads s (take i rs)
  stop : k ≤ length rs → Leads s (take k rs) → ⊥

data Said (s : State) (n : ℕ) (rs : List Record) : Result Counts ℕ → Type 0 where
  ends : {B P : ℕ} → Rest s B P rs → Said s n rs (Ok (record { batches = B; payments = P }))
  stops : (k : ℕ) → Stopped s rs k → Said s n rs (Err (n + k))

-- no record fits, or only the end is lacking
stopped_here : (s : State) (rs : List Record) → Sane s → ((B P : ℕ) (more : List Record) → Rest s B P (take 1 rs ++ more) → 1 ≤ length rs → ⊥)
    → ((B P : ℕ) → Rest s B P rs → ⊥) → Stopped s rs 1
stopped_here s rs h f g =
    record {
      none = g;
      some = omega arith;
      within = omega arith;
      before = before;
      stop = λ n l. f l.batches l.payments l.more l.left n;
    }
  where
    before : (i : ℕ) → i < 1 → Leads s (take i rs)
    before zero n = live s h
    before (suc i) n = absurd (omega arith)

-- a record that fits, and then
stopped_later : (s : State) (r : Record) (rs : List Record) (k : ℕ) → Sane s → follows s r ≡ true → Stopped (after s r) rs k → Stopped s (r ∷ rs) (suc k)
stopped_later s r rs k h e t =
    record {
      none = λ B P w. t.none B P (stepped s r rs B P w).1;
      some = omega arith;
      within = omega (arith, t.within);
      before = before;
      stop = stop;
    }
  where
    led : (xs : List Record) → Leads (after s r) xs → Leads s (r ∷ xs)
    led xs l =
        record {
          more = l.more;
          whole = l.whole;
          batches = l.batches;
          payments = l.payments;
          left = prepend s r (xs ++ l.more) l.batches l.payments (move s r e) l.left;
        }

    before : (i : ℕ) → i < suc k → Leads s (take i (r ∷ rs))
    before zero n = live s h
    before (suc i) n = led (take i rs) (t.before i (omega arith))

    stop : suc k ≤ length (r ∷ rs) → Leads s (take (suc k) (r ∷ rs)) → ⊥
    stop n l =
        t.stop (omega arith)
        (record {
          more = l.more;
          whole = l.whole;
          batches = l.batches;
          payments = l.payments;
          left = (stepped s r (take k rs ++ l.more) l.batches l.payments l.left).1;
        })

said : (s : State) (n : ℕ) (rs : List Record) → Sane s → All Whole rs → Said s n rs (read_on s n rs)
unfolding read_on choose
said s n [] h w = go (is_at s FileClosed) refl
  where
    go : (t : Bool) → is_at s FileClosed ≡ t → Said s n [] (choose (is_at s FileClosed) (Ok (counted s)) (Err (n + 1)))
    go true e = rw e (ends (at s _ _ [] FileClosed (at_place s FileClosed e) (record { whole = refl; counted = refl; paid = refl })))
    go false e =
        rw e (stops 1 (stopped_here s [] h (λ B P more l m. omega arith) (λ B P l. true≢false (sym (ended s B P l) ∙ e))))
said s n (r ∷ rs) h w = go (follows s r) refl (λ e. said (after s r) (n + 1) rs (sane_after s r w.0 (move s r e) h) w.1)
  where
    on : follows s r ≡ true → (v : Result Counts ℕ) → Said (after s r) (n + 1) rs v → Said s n (r ∷ rs) v
    on e (Ok c) (ends l) = ends (prepend s r rs c.batches c.payments (move s r e) l)
    on e (Err m) (stops k t) = subst (λ (j : ℕ). Said s n (r ∷ rs) (Err j)) (omega arith) (stops (suc k) (stopped_later s r rs k h e t))

    go : (t : Bool) → follows s r ≡ t → (follows s r ≡ true → Said (after s r) (n + 1) rs (read_on (after s r) (n + 1) rs))
        → Said s n (r ∷ rs) (choose (follows s r) (read_on (after s r) (n + 1) rs) (Err (n + 1)))
    go true e ih = rw e (on e _ (ih e))
    go false e ih =
        rw e
        (stops 1
        (stopped_here s (r ∷ rs) h (λ B P more l m. true≢false (sym (stepped s r more B P l).0 ∙ e))
        (λ B P l. true≢false (sym (stepped s r rs B P l).0 ∙ e))))

-- before the first record: what may follow is a legal file
divided : (B P : ℕ) (rs : List Record) → Rest start B P rs → Divided rs
unfolding start
divided B P rs h = let w = from start B P rs Start refl h in (w.division, w.divides)

undivided : (rs : List Record) (d : Division) → DivisionOf rs d → Rest start (length d.batches) (payment_count d.batches) rs
unfolding start
undivided rs d h = at start _ _ rs Start refl (record { division = d; divides = h; counted = omega arith; paid = omega arith })

begins : (rs : List Record) → Leads start rs → Begins rs
begins rs l = record { more = l.more; whole = l.whole; divided = divided l.batches l.payments _ l.left }

leads : (rs : List Record) → Begins rs → Leads start rs
leads rs b =
    record {
      more = b.more;
      whole = b.whole;
      batches = length b.divided.0.batches;
      payments = payment_count b.divided.0.batches;
      left = undivided _ b.divided.0 b.divided.1;
    }

told : (rs : List Record) (d : Division) (B P : ℕ) → DivisionOf rs d → B ≡ length d.batches → P ≡ payment_count d.batches → Nested rs (Ok (record { batches = B; payments = P }))
told rs d B P h b p = rw (b, p) (legal d h)

-- the reader's answer is the promised one
pub answer : (rs : List Record) → All Whole rs → Nested rs (read_on start 0 rs)
unfolding start
answer rs w = go (read_on start 0 rs) (said start 0 rs sane_start w)
  where
    go : (v : Result Counts ℕ) → Said start 0 rs v → Nested rs v
    go (Ok c) (ends l) =
        let d = from start c.batches c.payments rs Start refl l in
        told rs d.division _ _ d.divides (omega (arith, d.counted)) (omega (arith, d.paid))
    go (Err m) (stops k t) =
        subst (λ (j : ℕ). Nested rs (Err j)) (omega arith)
        (refused k
        (record {
          none = λ d. t.none _ _ (undivided rs d.0 d.1);
          from = t.some;
          to = t.within;
          before = λ i h. begins (take i rs) (t.before i h);
          here = λ h b. t.stop h (leads (take k rs) b);
        }))
