-- A record's code: its two bytes, and them in a list of codes, test by test; and that no two of the sixteen codes share their bytes.
-- Assumes nothing.
use mathlib.Core.Path.{◌≡◌, refl, ap, sym, ◌∙◌}
use mathlib.Core.Bool.{Bool, true, false}
use mathlib.Core.Logic.{◌⊎◌, inl, inr}
use mathlib.Core.List.{List, [], ◌∷◌}
use Prim.Native.Nat.{ℕ, ◌≤◌}
use native.Mathlib.Omega.{arith}
use lib.ListN.{length, get_or}
use borrow.Author.Tests.{ne_eqb}
use Rattle.record.specs.declared.codes.Code.{Code}
use Rattle.record.specs.declared.codes.Code.TheVariants.{FileHeader, Batch, Detail, Party, Account, Procurement, BatchTrailer, FileTrailer, Unknown}
use Rattle.record.specs.declared.codes.Letter.{Letter}
use Rattle.record.specs.declared.codes.Letter.TheVariants.{N, C, W, I, A}
use Rattle.page.specs.CodePage.{shown}
use Rattle.record.specs.Choice.{◌and◌, choose}
use Rattle.record.specs.Tests.{alike}
use Rattle.record.specs.Fields.{record_code}
use Rattle.record.specs.Correction.{corrected}
use Rattle.record.specs.Value.{written, held}
use Rattle.record.specs.Codes.{code_in, code_bytes, code_of, letter_byte, codes, is_detail, is_header}
use Rattle.record.proofs.Same.{alike_equal}

-- the two bytes with which a record begins, as they were sent and as they are seen
pub code_sent : (ascii : Bool) (rec : List ℕ) (a b : ℕ) → 2 ≤ length rec → ascii ≡ false → a ≡ get_or rec 0 0 → b ≡ get_or rec 1 0 → a ∷ b ∷ [] ≡ held (shown ascii rec) record_code
unfolding held written corrected shown
code_sent ascii [] a b n z e f = absurd (omega arith)
code_sent ascii (x ∷ []) a b n z e f = absurd (omega arith)
code_sent ascii (x ∷ y ∷ rec) a b n z e f = rw (z, e, f)

pub code_shown : (ascii : Bool) (rec bytes : List ℕ) (a b : ℕ) → 2 ≤ length rec → ascii ≡ true → a ≡ get_or rec 0 0 → b ≡ get_or rec 1 0 → bytes ≡ shown true (a ∷ b ∷ []) → bytes ≡ held (shown ascii rec) record_code
unfolding held written corrected shown
code_shown ascii [] bytes a b n z e f t = absurd (omega arith)
code_shown ascii (x ∷ []) bytes a b n z e f t = absurd (omega arith)
code_shown ascii (x ∷ y ∷ rec) bytes a b n z e f t = t ∙ rw (z, e, f)

-- the code that a record's two bytes name is its own
pub code_read : (rec bytes : List ℕ) (c : Code) → bytes ≡ held rec record_code → c ≡ code_in codes bytes → c ≡ code_of rec
unfolding code_of
code_read rec bytes c e h = h ∙ ap (code_in codes) e

-- the code of two bytes, known one by one
pub pair_code : (xs : List ℕ) (x y : ℕ) (c : Code) → length xs ≡ 2 → get_or xs 0 0 ≡ x → get_or xs 1 0 ≡ y → c ≡ code_in codes (x ∷ y ∷ []) → c ≡ code_in codes xs
pair_code [] x y c n e f h = absurd (omega arith)
pair_code (a ∷ []) x y c n e f h = absurd (omega arith)
pair_code (a ∷ b ∷ []) x y c n e f h = h ∙ rw (e, f)
pair_code (a ∷ b ∷ d ∷ xs) x y c n e f h = absurd (omega arith)

-- bytes with which no code begins, and those that none has behind its first
pub no_first : (x y : ℕ) → (x ≡ 0xC4 → ⊥) → (x ≡ 0xC2 → ⊥) → (x ≡ 0xC6 → ⊥) → Unknown ≡ code_in codes (x ∷ y ∷ [])
unfolding code_in code_bytes letter_byte alike choose ◌and◌
no_first x y a b c = rw (ne_eqb x 0xC4 a, ne_eqb x 0xC2 b, ne_eqb x 0xC6 c)

pub no_detail : (y : ℕ) → (y ≡ 0xE7 → ⊥) → (y ≡ 0xE3 → ⊥) → (y ≡ 0xD7 → ⊥) → (y ≡ 0xD5 → ⊥) → (y ≡ 0xC3 → ⊥) → (y ≡ 0xE6 → ⊥) → (y ≡ 0xC9 → ⊥) → (y ≡ 0xC1 → ⊥)
    → Unknown ≡ code_in codes (0xC4 ∷ y ∷ [])
unfolding code_in code_bytes letter_byte alike choose ◌and◌
no_detail y a b c d e f g h =
    rw (ne_eqb y 0xE7 a, ne_eqb y 0xE3 b, ne_eqb y 0xD7 c, ne_eqb y 0xD5 d, ne_eqb y 0xC3 e, ne_eqb y 0xE6 f, ne_eqb y 0xC9 g, ne_eqb y 0xC1 h)

pub no_batch : (y : ℕ) → (y ≡ 0xD5 → ⊥) → (y ≡ 0xC3 → ⊥) → (y ≡ 0xE6 → ⊥) → (y ≡ 0xC9 → ⊥) → (y ≡ 0xC1 → ⊥) → (y ≡ 0xE3 → ⊥) → Unknown ≡ code_in codes (0xC2 ∷ y ∷ [])
unfolding code_in code_bytes letter_byte alike choose ◌and◌
no_batch y a b c d e f = rw (ne_eqb y 0xD5 a, ne_eqb y 0xC3 b, ne_eqb y 0xE6 c, ne_eqb y 0xC9 d, ne_eqb y 0xC1 e, ne_eqb y 0xE3 f)

pub no_frame : (y : ℕ) → (y ≡ 0xC8 → ⊥) → (y ≡ 0xE3 → ⊥) → Unknown ≡ code_in codes (0xC6 ∷ y ∷ [])
unfolding code_in code_bytes letter_byte alike choose ◌and◌
no_frame y a b = rw (ne_eqb y 0xC8 a, ne_eqb y 0xE3 b)

-- each code of the list fails: of itself, or since the bytes are others
data AllFail (q : Code → Bool) (xs : List ℕ) : List Code → Type 0 where
  none : AllFail q xs []
  other : (c : Code) (cs : List Code) → q c ≡ false → AllFail q xs cs → AllFail q xs (c ∷ cs)
  apart : (c : Code) (cs : List Code) → alike xs (code_bytes c) ≡ false → AllFail q xs cs → AllFail q xs (c ∷ cs)

none_in : (q : Code → Bool) (cs : List Code) (xs : List ℕ) → q Unknown ≡ false → AllFail q xs cs → q (code_in cs xs) ≡ false
unfolding code_in choose
none_in q [] xs u none = u
none_in q (c ∷ cs) xs u (other _ _ e h) = go (alike xs (code_bytes c)) (none_in q cs xs u h)
  where
    go : (t : Bool) → q (code_in cs xs) ≡ false → q (choose t c (code_in cs xs)) ≡ false
    go true r = e
    go false r = r
none_in q (c ∷ cs) xs u (apart _ _ e h) = rw e (none_in q cs xs u h)

-- each code is the one that its own bytes give: no two share their bytes
pub codes_apart : (c : Code) → code_in codes (code_bytes c) ≡ c
unfolding code_in code_bytes letter_byte alike choose ◌and◌
codes_apart FileHeader = refl
codes_apart (Batch N) = refl
codes_apart (Batch C) = refl
codes_apart (Batch W) = refl
codes_apart (Batch I) = refl
codes_apart (Batch A) = refl
codes_apart (Detail N) = refl
codes_apart (Detail C) = refl
codes_apart (Detail W) = refl
codes_apart (Detail I) = refl
codes_apart (Detail A) = refl
codes_apart Party = refl
codes_apart Account = refl
codes_apart Procurement = refl
codes_apart BatchTrailer = refl
codes_apart FileTrailer = refl
codes_apart Unknown = refl

-- a test of a record's code, code by code: where the record has the bytes of a code, what the test says of that; where it has those of no code of which the test holds, no
pub named : (q : Code → Bool) (c : Code) (b : Bool) (rec : List ℕ) → q c ≡ b → alike (held rec record_code) (code_bytes c) ≡ true → b ≡ q (code_of rec)
unfolding code_of
named q c b rec t e = rw (alike_equal (held rec record_code) (code_bytes c) e, codes_apart c, t)

-- of the last code that is asked for, the others having been
last_of : (q : Code → Bool) (c : Code) (rec : List ℕ) (r : Bool) → q c ≡ true → q Unknown ≡ false → r ≡ alike (held rec record_code) (code_bytes c)
    → (alike (held rec record_code) (code_bytes c) ≡ false → AllFail q (held rec record_code) codes) → r ≡ q (code_of rec)
unfolding code_of
last_of q c rec true t u e h = named q c true rec t (sym e)
last_of q c rec false t u e h = sym (none_in q codes (held rec record_code) u (h (sym e)))

-- the record has not the code of this letter
abbrev NoCode : (Letter → Code) → List ℕ → Letter → Type 0
NoCode kind rec l = alike (held rec record_code) (code_bytes (kind l)) ≡ false

pub last_detail : (rec : List ℕ) (r : Bool) → NoCode Detail rec N → NoCode Detail rec C → NoCode Detail rec W → NoCode Detail rec I
    → r ≡ alike (held rec record_code) (code_bytes (Detail A)) → r ≡ is_detail (code_of rec)
unfolding is_detail
last_detail rec r n c w i e =
    last_of is_detail (Detail A) rec r refl refl e
    (λ a. search (none, other, apart) depth 40)

pub last_header : (rec : List ℕ) (r : Bool) → NoCode Batch rec N → NoCode Batch rec C → NoCode Batch rec W → NoCode Batch rec I
    → r ≡ alike (held rec record_code) (code_bytes (Batch A)) → r ≡ is_header (code_of rec)
unfolding is_header
last_header rec r n c w i e =
    last_of is_header (Batch A) rec r refl refl e
    (λ a. search (none, other, apart) depth 40)

-- a code that is found is known by its bytes
pub code_bytes_holds : (cs : List Code) (xs : List ℕ) → (code_in cs xs ≡ Unknown) ⊎ (xs ≡ code_bytes (code_in cs xs))
unfolding code_in choose
code_bytes_holds [] xs = inl refl
code_bytes_holds (c ∷ cs) xs = go (alike xs (code_bytes c)) refl (code_bytes_holds cs xs)
  where
    go : (t : Bool) → alike xs (code_bytes c) ≡ t → (code_in cs xs ≡ Unknown) ⊎ (xs ≡ code_bytes (code_in cs xs))
        → (choose (alike xs (code_bytes c)) c (code_in cs xs) ≡ Unknown) ⊎ (xs ≡ code_bytes (choose (alike xs (code_bytes c)) c (code_in cs xs)))
    go true e h = inr (alike_equal xs (code_bytes c) e ∙ rw e)
    go false e h = rw e h
