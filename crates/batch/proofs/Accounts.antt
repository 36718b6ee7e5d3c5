-- The kinds of a batch: those of its records are those of its payments, and they are at most its DT.
-- Assumes nothing.
use mathlib.Core.Path.{◌≡◌, refl, sym, ap, ◌∙◌}
use mathlib.Core.Bool.{false}
use mathlib.Core.List.{List, [], ◌∷◌, ◌++◌, map, append-nil, append_assoc}
use Prim.Native.Nat.{ℕ, ◌≤◌}
use native.Mathlib.Omega.{arith}
use lib.ListN.{length, replicate, length-append, length-map}
use Rattle.record.specs.declared.codes.Letter.{Letter}
use Rattle.record.specs.declared.codes.Code.{Code}
use Rattle.record.specs.declared.codes.Code.TheVariants as code
use Rattle.record.specs.Choice.{choose}
use Rattle.record.specs.Codes.{letter_byte, code_bytes}
use Rattle.money.specs.Money.{total}
use Rattle.nesting.specs.Division.{Record, All, Own, Coded, DT, Payment, Batch, LegalPayment, LegalBatch, batch_code, payments_onto, batch_lines}
use Rattle.nesting.proofs.Coding.{of_bytes, lettered}
use Rattle.kinds.specs.Kinds.{kind, is_account, kinds, different, crowded}
use Rattle.kinds.proofs.Different.{different_few, one_kind, few_uncrowded}
use Rattle.reasons.specs.Findings.{sound, found}
use Rattle.batch.specs.Batch.{account_count, account_kinds, too_many}

-- a record with another code has none, and a DT its own
skipped : (c : Code) → is_account c ≡ false → (r : Record) (rs : List Record) → Coded (code_bytes c) r → kinds (r ∷ rs) ≡ kinds rs
unfolding kinds choose
skipped c e r rs h = rw (of_bytes c r h, e)

skipped_all : (c : Code) → is_account c ≡ false → (id : List ℕ) (xs rs : List Record) → All (Own (code_bytes c) id) xs → kinds (xs ++ rs) ≡ kinds rs
skipped_all c e id [] rs h = refl
skipped_all c e id (x ∷ xs) rs h = skipped c e x (xs ++ rs) h.0.0 ∙ skipped_all c e id xs rs h.1

own_all : (id : List ℕ) (ts rs : List Record) → All (Own DT id) ts → kinds (ts ++ rs) ≡ map kind ts ++ kinds rs
unfolding kinds choose is_account code_bytes
own_all id [] rs h = refl
own_all id (t ∷ ts) rs h = rw (of_bytes code.Account t h.0.0, own_all id ts rs h.1)

payments_kinds : (l : Letter) (ps : List Payment) (rs : List Record) → All (LegalPayment (letter_byte l)) ps → kinds (payments_onto ps rs) ≡ account_kinds ps ++ kinds rs
unfolding account_kinds is_account code_bytes
payments_kinds l [] rs h = refl
payments_kinds l (p ∷ ps) rs h =
    skipped (code.Detail l) refl p.detail _ h.0.detail
    ∙ skipped_all code.Party refl _ p.parties _ h.0.parties
    ∙ own_all _ p.accounts _ h.0.accounts
    ∙ ap (λ (ks : List (List ℕ)). map kind p.accounts ++ ks) (skipped_all code.Procurement refl _ p.procurements _ h.0.procurements ∙ payments_kinds l ps rs h.1)
    ∙ sym (append_assoc (map kind p.accounts) (account_kinds ps) (kinds rs))

pub batch_kinds : (b : Batch) → LegalBatch b → kinds (batch_lines b) ≡ account_kinds b.payments
unfolding kinds is_account code_bytes
batch_kinds b g =
    let l = lettered g.letter g.listed in
    let gs : All (LegalPayment (letter_byte l.0)) b.payments = rw (← l.1) g.payments in
    skipped (code.Batch l.0) refl b.header (payments_onto b.payments (b.trailer ∷ [])) (g.header ∙ ap batch_code l.1)
    ∙ payments_kinds l.0 b.payments (b.trailer ∷ []) gs
    ∙ ap (λ (ks : List (List ℕ)). account_kinds b.payments ++ ks) (skipped code.BatchTrailer refl b.trailer [] g.trailer)
    ∙ append-nil (account_kinds b.payments)

-- each DT has one
as_many : (ps : List Payment) → length (account_kinds ps) ≡ account_count ps
unfolding account_kinds account_count total
as_many [] = refl
as_many (p ∷ ps) = length-append (map kind p.accounts) (account_kinds ps) ∙ rw (length-map p.accounts kind, as_many ps)

-- so there are at most as many different kinds as DT (02 W1)
pub few_kinds : (ps : List Payment) → different [] (account_kinds ps) ≤ account_count ps
few_kinds ps = omega (arith, different_few [] (account_kinds ps), as_many ps)

pub few_accounts : (ps : List Payment) → account_count ps ≤ 1000 → crowded (account_kinds ps) ≡ false
few_accounts ps h = few_uncrowded (account_kinds ps) (omega (arith, few_kinds ps))

-- and a batch with one account code is never rejected for 12, however many DT it has (02 W1)
pub one_code : (k : List ℕ) (n : ℕ) (ps : List Payment) → account_kinds ps ≡ replicate (account_count ps) k → too_many n ps ≡ found sound n 76
unfolding too_many choose
one_code k n ps e =
    let f : crowded (account_kinds ps) ≡ false = rw e (few_uncrowded _ (omega (arith, one_kind k (account_count ps)))) in
    rw f
