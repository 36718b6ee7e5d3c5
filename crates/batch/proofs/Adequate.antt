-- The walk over the records of a legal batch ends with the first of the batch's findings, its number of payments and its total.
-- Assumes nothing.
use Rattle.reasons.specs.declared.Reason.TheVariants.{Crowded}
use Rattle.reasons.specs.Findings.{Checked}
use Rattle.std.specs.Prelude.{Option, Err}
use mathlib.Core.Path.{◌≡◌, refl, sym, ap, ◌∙◌}
use mathlib.Core.Bool.{Bool, false}
use mathlib.Core.List.{List, [], ◌∷◌, ◌++◌, map, append-nil, append_assoc}
use Prim.Native.Nat.{ℕ, suc, ◌+◌, ◌*◌}
use native.Mathlib.Omega.{arith}
use lib.ListN.{length, length-append}
use Rattle.record.specs.declared.codes.Letter.{Letter}
use Rattle.record.specs.declared.codes.Letter.TheVariants.{N}
use Rattle.record.specs.declared.codes.Code.{Code}
use Rattle.record.specs.declared.codes.Code.TheVariants as code
use Rattle.record.specs.Choice.{choose}
use Rattle.record.specs.Fields.{payment_id}
use Rattle.record.specs.Value.{held}
use Rattle.record.specs.Codes.{letter_byte, code_bytes, code_of}
use Rattle.money.specs.Money.{split, total}
use Rattle.money.proofs.Amounts.{worth_split}
use Rattle.calendar.specs.declared.Day.{Day}
use Rattle.book.specs.Book.{Contents}
use Rattle.nesting.specs.Division.{Record, All, DX, DT, DP, Own, Payment, Batch, payment_onto, payments_onto, LegalPayment, LegalBatch}
use Rattle.nesting.specs.Paid.{paid, paid_by}
use Rattle.nesting.proofs.Coding.{of_bytes, lettered}
use Rattle.reasons.specs.declared.Finding.{Finding}
use Rattle.reasons.specs.Findings.{found, sound, first, after}
use Rattle.reasons.proofs.Firsts.{after_append, after_sound}
use Rattle.rules.specs.declared.Context.{Context}
use Rattle.rules.specs.Rules.{Rule, header, detail, party, account, trailer, rules_for, findings}
use Rattle.batch.specs.declared.payment.Open.{Open}
use Rattle.batch.specs.declared.walk.Header.{Header}
use Rattle.batch.specs.declared.walk.State.{State}
use Rattle.batch.specs.Batch.{letter_of, size, sizes, account_count, context, no_codes, payer, header_codes, account_context, detail_context, each, each_procurement, payment, summary}
use Rattle.batch.specs.Walk.{opened, with_account, ended, context_of, state, knowing, head, opening, payer_in, paying_context, detailed, partied, accounted, next_procurement, procured, last, trailed, step_of, run}
use Rattle.batch.proofs.Marked.{marked_payments, marked_findings}
use Rattle.batch.proofs.Ends.{none_more, one_more, after_none, grown, found_in, plus_party, plus_account, plus_procurement, parties_end, accounts_keep, end_of, sums_end, empty_end, letterless, same, find_by, found_each, found_procurements}

-- sums with one payment more
total_more : (f : Payment → ℕ) (ps : List Payment) (p : Payment) → total (map f (ps ++ p ∷ [])) ≡ total (map f ps) + f p
unfolding total
total_more f [] p = omega arith
total_more f (q ∷ ps) p = rw (total_more f ps p) (omega arith)

module _ (book : Contents) (today : Option Day) (crowded : Bool) where
  -- what the walk knows after the earlier payments of a batch, of which it was told so: its header is record k, and with the open payment closed the findings come to g
  record Knows (h : Record) (k : ℕ) (earlier : List Payment) (g : Checked Finding) (s : State) : Type 0 where
    header : s.header ≡ head book today crowded k h
    payments : s.payments ≡ length earlier
    total : s.total ≡ split (paid_by earlier)
    accounts : s.accounts ≡ account_count earlier
    finding : after s.finding (ended s.payment) ≡ g

  -- what the rules of a header find
  abbrev begin : Bool → ℕ → Record → List (Checked Finding)
  begin repeats n h = findings (context today h repeats false (header_codes book h) []) n h (rules_for (letter_of h) header)

  at_header : (repeats : Bool) (n : ℕ) (h : Record) → Knows h n [] (after sound (begin repeats n h)) (opening book today repeats crowded n h)
  unfolding opening context header_codes letter_of paid_by account_count total
  at_header repeats n h = record { header = refl; payments = refl; total = refl; accounts = refl; finding = empty_end _ n _ refl }

  -- what is found at the trailer, record n
  abbrev ends : Record → ℕ → List Payment → ℕ → Record → List (Checked Finding)
  ends h k ps n r =
      found (choose crowded (Err Crowded) sound) k 76
      ∷ (findings (context today h false false no_codes ps) n r (rules_for (letter_of h) trailer)
      ++ summary k h ps
      ∷ [])

  at_trailer : (h : Record) (k : ℕ) (ps : List Payment) (g : Checked Finding) (s : State) → Knows h k ps g s → (n : ℕ) (r : Record)
      → let t = trailed s n r in
      (t.finding ≡ after g (ends h k ps n r)) × (t.payments ≡ length ps) × (t.total ≡ split (paid_by ps)) × (t.accounts ≡ account_count ps)
  unfolding trailed last knowing context_of head context letter_of summary trailer
  at_trailer h k ps g s w n r =
      let e = letterless (letter_of h) trailer (refl, (refl, tt)) in
      (rw (w.header, w.payments, w.total, w.finding, e) (simp worth_split), w.payments, w.total, w.accounts)

  -- the walk at a detail that follows the earlier payments
  abbrev begun : Record → ℕ → List Payment → Checked Finding → ℕ → Payment → Context → State
  begun h k earlier g n p c =
      state (after g (findings c n p.detail (rules_for (letter_of h) detail))) (head book today crowded k h) (opened n c (split (paid p)))
      (length earlier + 1) (split (paid_by earlier + paid p)) (account_count earlier)

  at_detail : (h : Record) (k : ℕ) (earlier : List Payment) (g : Checked Finding) (s : State) → Knows h k earlier g s
      → (n : ℕ) (p : Payment) (repeats : Bool)
      → detailed book s n p.detail repeats ≡ begun h k earlier g n p (detail_context book today h repeats earlier p.detail)
  unfolding detailed paying_context context_of payer_in head context detail_context payer letter_of paid
  at_detail h k earlier g s w n p repeats = rw (w.header, w.payments, w.total, w.accounts, w.finding) (simp worth_split)

  -- what the records after a detail find
  abbrev others : Letter → Context → Checked Finding → ℕ → Payment → Checked Finding
  others l c f n p =
      after
      (after (after f (each (same c) (rules_for l party) (n + 1) p.parties))
      (each (account_context book c) (rules_for l account) (n + 1 + length p.parties) p.accounts))
      (each_procurement l c (n + 1 + length p.parties + length p.accounts) p.procurements)

  -- the end of a payment
  closed : (g : Checked Finding) (l : Letter) (c : Context) (n : ℕ) (p : Payment)
      → after (others l c (after g (findings c n p.detail (rules_for l detail))) n p) (ended (end_of book n c p))
      ≡ after g (payment book l c n p)
  unfolding payment
  closed g l c n p = rw (sums_end book n c p) (simp after_append)

  module _ (marks : ℕ → Bool) where
    abbrev walk : ℕ → State → List Record → State
    walk = run book marks

    -- one record, by its code
    run_step : (n : ℕ) (s : State) (r : Record) (rs : List Record) (c : Code) {t : State} → code_of r ≡ c → step_of book c s n r (marks n) ≡ t
        → walk n s (r ∷ rs) ≡ walk (n + 1) t rs
    unfolding run
    run_step n s r rs c d e = ap (λ (t : State). walk (n + 1) t rs) (ap (λ (k : Code). step_of book k s n r (marks n)) d ∙ e)

    -- records of one code, each of which adds to the findings, to the payment and to the count of DT
    run_group : (c : Code) (finds : Header → Open → ℕ → Record → List (Checked Finding)) (adds : Open → Record → Open) (k : ℕ)
        → ((s : State) (n : ℕ) (r : Record)
        → step_of book c s n r (marks n)
        ≡ knowing s (after s.finding (finds s.header s.payment n r)) (adds s.payment r) (s.accounts + k))
        → (id : List ℕ) (n : ℕ) (s : State) (rs : List Record) → All (Own (code_bytes c) id) rs → (ys : List Record)
        → walk n s (rs ++ ys)
        ≡ walk (n + length rs)
        (knowing s (after s.finding (found_in (finds s.header) adds s.payment n rs)) (grown adds s.payment rs) (s.accounts + k * length rs)) ys
    unfolding found_in grown after knowing
    run_group c finds adds k step id n s [] os ys =
        let count : s.accounts ≡ s.accounts + k * 0 = omega arith in
        λ i. walk (none_more n i) (knowing s s.finding s.payment (count i)) ys
    run_group c finds adds k step id n s (r ∷ rs) os ys =
        let own = finds s.header s.payment n r in
        let o = adds s.payment r in
        let more = found_in (finds s.header) adds o (n + 1) rs in
        let count : s.accounts + k + k * length rs ≡ s.accounts + k * suc (length rs) = omega arith in
        run_step n s r (rs ++ ys) c (of_bytes c r os.0.0) (step s n r)
        ∙ run_group c finds adds k step id (n + 1) (knowing s (after s.finding own) o (s.accounts + k)) rs os.1 ys
        ∙ (λ i. walk (one_more n (length rs) i) (knowing s (sym (after_append s.finding own more) i) (grown adds o rs) (count i)) ys)

    -- DX
    run_parties : (id : List ℕ) (n : ℕ) (s : State) (xs : List Record) → All (Own DX id) xs → (ys : List Record)
        → walk n s (xs ++ ys)
        ≡ walk (n + length xs)
        (knowing s (after s.finding (each (same s.payment.context) (rules_for s.header.letter party) n xs)) s.payment s.accounts) ys
    unfolding code_bytes step_of partied
    run_parties id n s xs os ys =
        let finds : Header → Open → ℕ → Record → List (Checked Finding) = λ h. find_by same (rules_for h.letter party) in
        let found = found_each same (rules_for s.header.letter party) plus_party (λ o r. refl) s.payment n xs in
        let count : s.accounts + 0 * length xs ≡ s.accounts = omega arith in
        run_group code.Party finds plus_party 0
        (λ u k r. ap (knowing u (after u.finding (finds u.header u.payment k r)) u.payment) (none_more u.accounts)) id n s xs os ys
        ∙ (λ i. walk (n + length xs) (knowing s (after s.finding (found i)) (parties_end s.payment xs i) (count i)) ys)

    -- DT
    run_accounts : (l : Letter) (id : List ℕ) (n : ℕ) (s : State) (ts : List Record) → All (Own DT id) ts → (ys : List Record)
        → walk n s (ts ++ ys)
        ≡ walk (n + length ts)
        (knowing s (after s.finding (each (account_context book s.payment.context) (rules_for l account) n ts)) (grown (plus_account book) s.payment ts)
        (s.accounts + length ts)) ys
    unfolding code_bytes step_of accounted with_account account
    run_accounts l id n s ts os ys =
        let adds = plus_account book in
        let found =
        found_each (account_context book) (rules_for N account) adds (λ o r. refl) s.payment n ts
        ∙ ap (λ (rs : List Rule). each (account_context book s.payment.context) rs n ts) (letterless l account (refl, (refl, (refl, (refl, (refl, tt)))))) in
        let count : s.accounts + 1 * length ts ≡ s.accounts + length ts = omega arith in
        run_group code.Account (λ (h : Header). find_by (account_context book) (rules_for N account)) adds 1 (λ u k r. refl) id n s ts os ys
        ∙ (λ i. walk (n + length ts) (knowing s (after s.finding (found i)) (grown adds s.payment ts) (count i)) ys)

    -- DP
    run_procurements : (l : Letter) (id : List ℕ) (n : ℕ) (s : State) (ps : List Record) → s.payment.procurements ≡ 0
        → All (Own DP id) ps → (ys : List Record)
        → walk n s (ps ++ ys)
        ≡ walk (n + length ps)
        (knowing s (after s.finding (each_procurement l s.payment.context n ps)) (grown plus_procurement s.payment ps) s.accounts) ys
    unfolding code_bytes step_of procured
    run_procurements l id n s ps e os ys =
        let finds = next_procurement in
        let found = found_procurements l s.finding s.payment n ps e in
        let count : s.accounts + 0 * length ps ≡ s.accounts = omega arith in
        run_group code.Procurement (λ (h : Header). finds) plus_procurement 0
        (λ u k r. ap (knowing u (after u.finding (finds u.payment k r)) (plus_procurement u.payment r)) (none_more u.accounts)) id n s ps os ys
        ∙ (λ i. walk (n + length ps) (knowing s (found i) (grown plus_procurement s.payment ps) (count i)) ys)

    -- the records after a detail
    run_others : (letter n : ℕ) (s : State) (p : Payment) → s.payment.procurements ≡ 0 → LegalPayment letter p → (ys : List Record)
        → walk (n + 1) s (p.parties ++ (p.accounts ++ (p.procurements ++ ys)))
        ≡ walk (n + size p)
        (knowing s (others s.header.letter s.payment.context s.finding n p)
        (grown plus_procurement (grown (plus_account book) s.payment p.accounts) p.procurements) (s.accounts + length p.accounts)) ys
    unfolding knowing size
    run_others letter n s p e legal ys =
        let id = held p.detail payment_id in
        let l = s.header.letter in
        let c = s.payment.context in
        let there = n + 1 + length p.parties in
        let then = there + length p.accounts in
        let f = after s.finding (each (same c) (rules_for l party) (n + 1) p.parties) in
        let g = after f (each (account_context book c) (rules_for l account) there p.accounts) in
        let o = grown (plus_account book) s.payment p.accounts in
        let keep = accounts_keep book s.payment p.accounts in
        let a = s.accounts + length p.accounts in
        let end : then + length p.procurements ≡ n + (1 + length p.parties + length p.accounts + length p.procurements) = omega arith in
        run_parties id (n + 1) s p.parties legal.parties _
        ∙ run_accounts l id there (knowing s f s.payment s.accounts) p.accounts legal.accounts _
        ∙ run_procurements l id then (knowing s g o a) p.procurements (keep.1 ∙ e) legal.procurements ys
        ∙ (λ i. walk (end i)
        (knowing s (after g (each_procurement l (keep.0 i) then p.procurements)) (grown plus_procurement o p.procurements) a) ys)

    -- the walk comes to record m and the records ys, with a state of which this is known
    record Comes (n : ℕ) (s : State) (rs : List Record) (m : ℕ) (ys : List Record) (Known : State → Type 0) : Type 0 where
      end : State
      ran : walk n s rs ≡ walk m end ys
      known : Known end

    -- what the division says of a payment that follows the earlier ones
    abbrev own_of : Record → List Payment → ℕ → Payment → List (Checked Finding)
    own_of h earlier n p = payment book (letter_of h) (detail_context book today h (marks n) earlier p.detail) n p

    run_payment : (h : Record) (k : ℕ) (earlier : List Payment) (g : Checked Finding) (s : State) → Knows h k earlier g s
        → (l : Letter) (n : ℕ) (p : Payment) → LegalPayment (letter_byte l) p → (ys : List Record)
        → Comes n s (payment_onto p ys) (n + size p) ys (Knows h k (earlier ++ p ∷ []) (after g (own_of h earlier n p)))
    unfolding knowing opened head letter_of paid_by account_count step_of code_bytes
    run_payment h k earlier g s w l n p legal ys =
        let c = detail_context book today h (marks n) earlier p.detail in
        let t = begun h k earlier g n p c in
        record {
          end = knowing t (others (letter_of h) c t.finding n p) (end_of book n c p) (account_count earlier + length p.accounts);
          ran =
              run_step n s p.detail _ (code.Detail l) (of_bytes (code.Detail l) p.detail legal.detail) (at_detail h k earlier g s w n p (marks n))
              ∙ run_others (letter_byte l) n t p refl legal ys;
          known =
              record {
                header = refl;
                payments = sym (length-append earlier (p ∷ []));
                total = ap split (sym (total_more paid earlier p));
                accounts = sym (total_more (λ (q : Payment). length q.accounts) earlier p);
                finding = closed g (letter_of h) c n p;
              };
        }

    -- one payment of i records, then the others, of j records
    run_on : (h : Record) (k : ℕ) (earlier : List Payment) (p : Payment) (ps : List Payment) (g : Checked Finding) (own more : List (Checked Finding))
        (n i j : ℕ) (s : State) (rs ts ys : List Record)
        (one : Comes n s rs (n + i) ts (Knows h k (earlier ++ p ∷ []) (after g own)))
        → Comes (n + i) one.end ts (n + i + j) ys (Knows h k ((earlier ++ p ∷ []) ++ ps) (after (after g own) more))
        → Comes n s rs (n + (i + j)) ys (Knows h k (earlier ++ p ∷ ps) (after g (own ++ more)))
    run_on h k earlier p ps g own more n i j s rs ts ys one rest =
        let place : n + i + j ≡ n + (i + j) = omega arith in
        record {
          end = rest.end;
          ran = one.ran ∙ rest.ran ∙ ap (λ (m : ℕ). walk m rest.end ys) place;
          known = rw (after_append g own more, ← append_assoc earlier (p ∷ []) ps) rest.known;
        }

    -- payments, one after the other
    run_payments : (h : Record) (k : ℕ) (earlier : List Payment) (g : Checked Finding) (s : State) → Knows h k earlier g s
        → (l : Letter) (n : ℕ) (ps : List Payment) → All (LegalPayment (letter_byte l)) ps → (ys : List Record)
        → Comes n s (payments_onto ps ys) (n + sizes ps) ys (Knows h k (earlier ++ ps) (after g (marked_payments book today marks h n earlier ps)))
    unfolding marked_payments sizes total
    run_payments h k earlier g s w l n [] legal ys =
        record { end = s; ran = ap (λ (m : ℕ). walk m s ys) (none_more n); known = rw (append-nil earlier, after_none g) w }
    run_payments h k earlier g s w l n (p ∷ ps) legal ys =
        let one = run_payment h k earlier g s w l n p legal.0 (payments_onto ps ys) in
        run_on h k earlier p ps g _ _ n (size p) (sizes ps) s _ _ ys one
        (run_payments h k (earlier ++ p ∷ []) _ one.end one.known l (n + size p) ps legal.1 ys)

-- a batch
pub adequate : (book : Contents) (today : Option Day) (repeats crowded : Bool) (marks : ℕ → Bool) (n : ℕ) (b : Batch) → LegalBatch b
    → (s : State) → s ≡ run book marks (n + 1) (opening book today repeats crowded n b.header) (payments_onto b.payments (b.trailer ∷ []))
    → (s.finding ≡ first (marked_findings book today repeats crowded marks n b)) × (s.payments ≡ length b.payments) × (s.total ≡ split (paid_by b.payments))
    × (s.accounts ≡ account_count b.payments)
unfolding run step_of code_bytes marked_findings
adequate book today repeats crowded marks n b legal s e =
    let h = b.header in
    let ps = b.payments in
    let r = b.trailer in
    let m = n + 1 + sizes ps in
    let xs = begin book today crowded repeats n h in
    let ys = marked_payments book today marks h (n + 1) [] ps in
    let zs = ends book today crowded h n ps m r in
    let l = lettered legal.letter legal.listed in
    let paying : All (LegalPayment (letter_byte l.0)) ps = rw (← l.1) legal.payments in
    let walked = run_payments book today crowded marks h n [] (after sound xs) _ (at_header book today crowded repeats n h) l.0 (n + 1) ps paying (r ∷ []) in
    let t = walked.end in
    let q : s ≡ trailed t m r =
    e ∙ walked.ran ∙ run_step book today crowded marks m t r [] code.BatchTrailer (of_bytes code.BatchTrailer r legal.trailer) refl in
    let known = at_trailer book today crowded h n ps (after (after sound xs) ys) t walked.known m r in
    let joined : after (after (after sound xs) ys) zs ≡ first (xs ++ (ys ++ zs)) =
    sym (after_append (after sound xs) ys zs) ∙ sym (after_append sound xs (ys ++ zs)) ∙ after_sound (xs ++ (ys ++ zs)) in
    (ap (λ (u : State). u.finding) q ∙ known.0 ∙ joined, ap (λ (u : State). u.payments) q ∙ known.1, ap (λ (u : State). u.total) q ∙ known.2, ap (λ (u : State). u.accounts) q ∙ known.3)
