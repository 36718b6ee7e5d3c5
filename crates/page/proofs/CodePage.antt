-- The table of code page 037: one test over all its entries, which the checker computes, and what that says of each (02 W2).
-- Assumes nothing.
use mathlib.Core.Path.{◌≡◌, refl, ap, sym, ◌∙◌}
use mathlib.Core.Bool.{Bool, true, false, true≢false, ◌&&◌}
use mathlib.Core.List.{List, [], ◌∷◌}
use Prim.Native.Nat.{ℕ, zero, suc, ◌+◌, ◌-◌, ◌≤◌, ◌<◌}
use native.Mathlib.Nat.{not-suc-le-zero}
use native.Mathlib.Omega.{arith}
use lib.Dec.{leb, eqb}
use lib.ListN.{length, get_or, replicate, get_or-append, get_or-eq_default}
use lib.Seq.{get_or-append-add}
use borrow.Author.Tests.{lt-leb, le-leb, leb-true, leb-false, eq-eqb, ne_eqb, eqb-true, eqb-false}
use Rattle.page.specs.CodePage.{code_page, Row, landings, Printable, ebcdic, Lands, twins}

-- what two tests that hold say of each
pub both_left : (a b : Bool) → (a && b) ≡ true → a ≡ true
both_left true b e = refl
both_left false b e = e

pub both_right : (a b : Bool) → (a && b) ≡ true → b ≡ true
both_right true b e = e
both_right false b e = absurd (true≢false (sym e))

-- a test of every number below n, and of each
abbrev pub below : (ℕ → Bool) → ℕ → Bool
below q zero = true
below q (suc n) = q n && below q n

pub below_each : (q : ℕ → Bool) (n : ℕ) → below q n ≡ true → (k : ℕ) → k < n → q k ≡ true
below_each q zero t k h = absurd (not-suc-le-zero h)
below_each q (suc n) t k h = go (eqb k n) refl (below_each q n (both_right (q n) (below q n) t) k)
  where
    go : (b : Bool) → eqb k n ≡ b → (k < n → q k ≡ true) → q k ≡ true
    go true e r = rw (eqb-true k n e) (both_left (q n) (below q n) t)
    go false e r = let d : k ≡ n → ⊥ = eqb-false k n e in r (omega arith)

here : Bool → ℕ → ℕ
here true n = 0
here false n = n

-- where a byte first stands in a list
place : ℕ → List ℕ → ℕ
place x [] = 0
place x (y ∷ ys) = here (eqb y x) (suc (place x ys))

entry : ℕ → ℕ
entry k = get_or code_page k 0

-- the test: no entry stands earlier in the table, and each is 40 to FF
sound : ℕ → Bool
sound k = eqb (place (entry k) code_page) k && (leb 0x40 (entry k) && leb (entry k) 0xFF)

all_sound : below sound 95 ≡ true
unfolding code_page sound entry place here
all_sound = refl

module _ (k : ℕ) (h : k < 95) where
  told : sound k ≡ true
  told = below_each sound 95 all_sound k h

  entry_place : place (entry k) code_page ≡ k
  unfolding sound
  entry_place = eqb-true (place (entry k) code_page) k (both_left _ _ told)

  entry_least : 0x40 ≤ entry k
  unfolding sound
  entry_least = leb-true 0x40 (entry k) (both_left (leb 0x40 (entry k)) _ (both_right (eqb (place (entry k) code_page) k) _ told))

  entry_most : entry k ≤ 0xFF
  unfolding sound
  entry_most = leb-true (entry k) 0xFF (both_right (leb 0x40 (entry k)) _ (both_right (eqb (place (entry k) code_page) k) _ told))

-- what a byte becomes: before the table, in it, behind it
page_length : length code_page ≡ 95
unfolding code_page
page_length = refl

each : (x n b : ℕ) → b < n → get_or (replicate n x) b x ≡ x
each x zero b h = absurd (not-suc-le-zero h)
each x (suc n) zero h = refl
each x (suc n) (suc b) h = each x n b (omega arith)

pub low_byte : (b : ℕ) → b < 0x20 → 0x3F ≡ ebcdic b
unfolding ebcdic
low_byte b h = sym (get_or-append (replicate 0x20 0x3F) code_page 0x3F b h ∙ each 0x3F 0x20 b h)

behind : (k : ℕ) → ebcdic (0x20 + k) ≡ get_or code_page k 0x3F
unfolding ebcdic
behind k = get_or-append-add (replicate 0x20 0x3F) code_page k 0x3F

pub high_byte : (b : ℕ) → 0x7E < b → 0x3F ≡ ebcdic b
high_byte b h =
    let e : 0x20 + (b - 0x20) ≡ b = omega arith in
    sym (rw e at (behind (b - 0x20)) ∙ get_or-eq_default code_page 0x3F (omega (arith, page_length)))

-- a place in the table, whatever stands for no place
inside : (xs : List ℕ) (k c d : ℕ) → k < length xs → get_or xs k c ≡ get_or xs k d
inside [] k c d h = absurd (not-suc-le-zero h)
inside (x ∷ xs) zero c d h = refl
inside (x ∷ xs) (suc k) c d h = inside xs k c d (omega arith)

pub page_byte : (b at : ℕ) → at ≡ b - 0x20 → 0x20 ≤ b → b ≤ 0x7E → get_or code_page at 0 ≡ ebcdic b
page_byte b at e h k =
    let m : 0x20 + at ≡ b = omega arith in
    inside code_page at 0 0x3F (omega (arith, page_length)) ∙ sym (rw m at (behind at))

printable : (b : ℕ) → Printable b → ebcdic b ≡ entry (b - 0x20)
unfolding entry
printable b h = sym (page_byte b (b - 0x20) refl h.0 h.1)

-- no two printable characters become the same byte
pub distinct : (b c : ℕ) → Printable b → Printable c → ebcdic b ≡ ebcdic c → b ≡ c
distinct b c h l e =
    let i : b - 0x20 < 95 = omega (arith, h.0, h.1) in
    let j : c - 0x20 < 95 = omega (arith, l.0, l.1) in
    let q : entry (b - 0x20) ≡ entry (c - 0x20) = sym (printable b h) ∙ e ∙ printable c l in
    let p : b - 0x20 ≡ c - 0x20 = sym (entry_place _ i) ∙ ap (λ (x : ℕ). place x code_page) q ∙ entry_place _ j in
    omega (arith, h.0, l.0)

-- each becomes a byte of 40 or above
pub printable_least : (b : ℕ) → Printable b → 0x40 ≤ ebcdic b
printable_least b h = rw (printable b h) (entry_least (b - 0x20) (omega (arith, h.0, h.1)))

-- letters, digits, blank and hyphen land as document 01 says
lands : ℕ → ℕ → ℕ → Bool
lands from to k = eqb (ebcdic (from + k)) (to + k)

all_land : List Row → Bool
all_land [] = true
all_land (r ∷ rs) = below (lands r.sent r.lands) r.count && all_land rs

all_land_holds : all_land landings ≡ true
unfolding code_page ebcdic landings lands all_land
all_land_holds = refl

land_each : (rs : List Row) → all_land rs ≡ true → Lands rs
unfolding all_land lands
land_each [] t = tt
land_each (r ∷ rs) t = (
  λ k h. eqb-true (ebcdic (r.sent + k)) (r.lands + k) (below_each (lands r.sent r.lands) r.count (both_left _ (all_land rs) t) k h),
  land_each rs (both_right (below (lands r.sent r.lands) r.count) _ t),
)

pub landing : Lands landings
landing = land_each landings all_land_holds

-- what becomes of any byte
pub unprintable : (b : ℕ) → (Printable b → ⊥) → ebcdic b ≡ 0x3F
unprintable b d = go (leb 0x20 b) refl (leb b 0x7E) refl
  where
    go : (s : Bool) → leb 0x20 b ≡ s → (t : Bool) → leb b 0x7E ≡ t → ebcdic b ≡ 0x3F
    go true e true f = absurd (d (leb-true 0x20 b e, leb-true b 0x7E f))
    go true e false f = sym (high_byte b (leb-false b 0x7E f))
    go false e t f = sym (low_byte b (leb-false 0x20 b e))

pub ebcdic_byte : (b : ℕ) → ebcdic b < 256
ebcdic_byte b = go (leb 0x20 b) refl (leb b 0x7E) refl
  where
    go : (s : Bool) → leb 0x20 b ≡ s → (t : Bool) → leb b 0x7E ≡ t → ebcdic b < 256
    go true e true f =
        let h : Printable b = (leb-true 0x20 b e, leb-true b 0x7E f) in
        rw (printable b h) (omega (arith, entry_most (b - 0x20) (omega (arith, h.0, h.1))))
    go true e false f = rw (← high_byte b (leb-false b 0x7E f)) (omega arith)
    go false e t f = rw (← low_byte b (leb-false 0x20 b e)) (omega arith)

-- blanks, and characters in a row, as the code adds them up
in_row : (sent lands count more : ℕ) → sent + more ≡ lands → ((k : ℕ) → k < count → ebcdic (sent + k) ≡ lands + k) → (b : ℕ) → sent ≤ b → b < sent + count → b + more ≡ ebcdic b
in_row sent lands count more m row b h l =
    let e : sent + (b - sent) ≡ b = omega arith in
    let s : lands + (b - sent) ≡ b + more = omega arith in
    sym (rw (e, s) at (row (b - sent) (omega arith)))

zero_lands : (k : ℕ) → k < 10 → ebcdic (0x30 + k) ≡ 0xF0 + k
unfolding landings
zero_lands = landing.1.1.1.1.1.1.0

pub digit_lands : (b : ℕ) → 0x30 ≤ b → b ≤ 0x39 → b + 0xC0 ≡ ebcdic b
digit_lands b h l = in_row 0x30 0xF0 10 0xC0 refl zero_lands b h (omega arith)

-- what becomes a digit is one
pub digit_sent : (b : ℕ) → 0xF0 ≤ ebcdic b → ebcdic b ≤ 0xF9 → (0x30 ≤ b) × (ebcdic b ≡ b + 0xC0) × (b ≤ 0x39)
digit_sent b h l = go (leb 0x20 b) refl (leb b 0x7E) refl
  where
    go : (s : Bool) → leb 0x20 b ≡ s → (t : Bool) → leb b 0x7E ≡ t → (0x30 ≤ b) × (ebcdic b ≡ b + 0xC0) × (b ≤ 0x39)
    go true e true f =
        let k = ebcdic b - 0xF0 in
        let q : ebcdic (0x30 + k) ≡ 0xF0 + k = zero_lands k (omega arith) in
        let m : 0xF0 + k ≡ ebcdic b = omega arith in
        let d : 0x30 + k ≡ b = distinct (0x30 + k) b (omega arith, omega arith) (leb-true 0x20 b e, leb-true b 0x7E f) (q ∙ m) in
        (omega arith, omega arith, omega arith)
    go true e false f = absurd (omega (arith, high_byte b (leb-false b 0x7E f)))
    go false e t f = absurd (omega (arith, low_byte b (leb-false 0x20 b e)))

-- a byte becomes what a printable character does only where it is that character
pub same_sent : (x a : ℕ) → Printable a → eqb (ebcdic x) (ebcdic a) ≡ eqb x a
same_sent x a p = go (eqb x a) refl
  where
    apart : (x ≡ a → ⊥) → ebcdic x ≡ ebcdic a → (s : Bool) → leb 0x20 x ≡ s → (t : Bool) → leb x 0x7E ≡ t → ⊥
    apart d q true e true f = d (distinct x a (leb-true 0x20 x e, leb-true x 0x7E f) p q)
    apart d q true e false f = absurd (omega (arith, high_byte x (leb-false x 0x7E f), printable_least a p, q))
    apart d q false e t f = absurd (omega (arith, low_byte x (leb-false 0x20 x e), printable_least a p, q))

    go : (b : Bool) → eqb x a ≡ b → eqb (ebcdic x) (ebcdic a) ≡ eqb x a
    go true e = eq-eqb (ebcdic x) (ebcdic a) (ap ebcdic (eqb-true x a e)) ∙ sym e
    go false e = ne_eqb (ebcdic x) (ebcdic a) (λ q. apart (eqb-false x a e) q (leb 0x20 x) refl (leb x 0x7E) refl) ∙ sym e

-- the first characters of a text and of the same in EBCDIC, and the others
pub twin_byte : (a t : ℕ) (chars ts : List ℕ) → twins (a ∷ chars) (t ∷ ts) ≡ true → (x : ℕ) → eqb (ebcdic x) t ≡ eqb x a
unfolding twins
twin_byte a t chars ts e x =
    let p = both_left (leb 0x20 a && leb a 0x7E) _ e in
    let h : Printable a = (leb-true 0x20 a (both_left (leb 0x20 a) _ p), leb-true a 0x7E (both_right (leb 0x20 a) _ p)) in
    let q : ebcdic a ≡ t = eqb-true (ebcdic a) t (both_left (eqb (ebcdic a) t) _ (both_right (leb 0x20 a && leb a 0x7E) _ e)) in
    rw (← q) (same_sent x a h)

pub twin_rest : (a t : ℕ) (chars ts : List ℕ) → twins (a ∷ chars) (t ∷ ts) ≡ true → twins chars ts ≡ true
unfolding twins
twin_rest a t chars ts e = both_right (eqb (ebcdic a) t) _ (both_right (leb 0x20 a && leb a 0x7E) _ e)

-- a byte is printable where it becomes 40 or more
pub valid_sent : (b : ℕ) → leb 0x40 (ebcdic b) ≡ (leb 0x20 b && leb b 0x7E)
valid_sent b = go (leb 0x20 b) refl (leb b 0x7E) refl
  where
    go : (s : Bool) → leb 0x20 b ≡ s → (t : Bool) → leb b 0x7E ≡ t → leb 0x40 (ebcdic b) ≡ (leb 0x20 b && leb b 0x7E)
    go true e true f = rw (e, f) (le-leb 0x40 (ebcdic b) (printable_least b (leb-true 0x20 b e, leb-true b 0x7E f)))
    go true e false f = rw (e, f, ← high_byte b (leb-false b 0x7E f)) (lt-leb 0x40 0x3F (omega arith))
    go false e t f = rw (e, ← low_byte b (leb-false 0x20 b e)) (lt-leb 0x40 0x3F (omega arith))
