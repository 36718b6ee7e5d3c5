-- What the walk finds in a payment and knows of it at its end is what the division says. Nothing here walks.
-- Assumes nothing.
use Rattle.reasons.specs.declared.Reason.TheVariants.{Accounts, Blank, Lacking, Procurements, Shape}
use Rattle.reasons.specs.declared.Reason.{Reason}
use Rattle.reasons.specs.Findings.{Checked, sound}
use Rattle.std.specs.Prelude.{unwrap_or, Err, Ok}
use mathlib.Core.Path.{◌≡◌, refl, sym, ap, ◌∙◌}
use mathlib.Core.Bool.{Bool, true, false}
use mathlib.Core.List.{List, [], ◌∷◌, ◌++◌, map}
use Prim.Native.Nat.{ℕ, suc, ◌+◌, ◌-◌, ◌≤◌}
use native.Mathlib.Omega.{arith}
use borrow.Author.Tests.{ne_eqb}
use lib.Dec.{eqb}
use lib.ListN.{length}
use Rattle.record.specs.declared.codes.Letter.{Letter}
use Rattle.record.specs.declared.codes.Letter.TheVariants.{N, C, W, I, A}
use Rattle.record.specs.Choice.{◌and◌, ◌or◌, choose}
use Rattle.record.specs.Fields.{account_amount, procurement_amount}
use Rattle.record.specs.Value.{held}
use Rattle.record.specs.Tests.{blank, digits}
use Rattle.record.specs.Codes.{letter_byte}
use Rattle.money.specs.declared.Amount.{Amount}
use Rattle.money.specs.declared.Signed.{Signed}
use Rattle.money.specs.Money.{worth, split, cents, total, side, comes_to}
use Rattle.money.proofs.Amounts.{worth_split}
use Rattle.money.proofs.Sums.{added, added_total, entered_all, entered_total}
use Rattle.book.specs.Book.{Contents}
use Rattle.nesting.specs.Division.{Record, All, Payment}
use Rattle.nesting.specs.Paid.{paid}
use Rattle.reasons.specs.declared.Finding.{Finding}
use Rattle.reasons.specs.Findings.{found, noted, after}
use Rattle.reasons.specs.Reasons.{number, if_number}
use Rattle.reasons.proofs.Firsts.{after_append}
use Rattle.rules.specs.declared.Context.{Context}
use Rattle.rules.specs.Rules.{Rule, any_letter, procurement, lone_procurement, reason, among, rows, rules_for, findings}
use Rattle.batch.specs.declared.payment.Open.{Open}
use Rattle.batch.specs.Sums.{Entry, balances, all_cents, procures}
use Rattle.batch.specs.Batch.{no_records, betc, entry_of, each, each_procurement, sums}
use Rattle.batch.specs.Walk.{opened, with_account, with_procurement, lone_blank, account_reason, procurement_reason, lack_reason, ended, next_procurement}

-- counts
pub none_more : (n : ℕ) → n ≡ n + 0
none_more n = omega arith

pub one_more : (n k : ℕ) → n + 1 + k ≡ n + suc k
one_more n k = omega arith

from_none : (n : ℕ) → 0 + n ≡ n
from_none n = omega arith

not_none : (n : ℕ) → eqb (suc n) 0 ≡ false
not_none n = ne_eqb (suc n) 0 (λ e. omega arith)

not_one : (n : ℕ) → eqb (suc (suc n)) 1 ≡ false
not_one n = ne_eqb (suc (suc n)) 1 (λ e. omega arith)

-- the payment after records that add to it one after the other, and what they find, each with the payment as the earlier ones left it
unfoldable pub grown : (Open → Record → Open) → Open → List Record → Open
grown adds o [] = o
grown adds o (r ∷ rs) = grown adds (adds o r) rs

unfoldable pub found_in : (Open → ℕ → Record → List (Checked Finding)) → (Open → Record → Open) → Open → ℕ → List Record → List (Checked Finding)
found_in finds adds o n [] = []
found_in finds adds o n (r ∷ rs) = finds o n r ++ found_in finds adds (adds o r) (n + 1) rs

-- DX add nothing
abbrev pub plus_party : Open → Record → Open
plus_party o r = o

pub parties_end : (o : Open) (xs : List Record) → grown plus_party o xs ≡ o
unfolding grown
parties_end o [] = refl
parties_end o (x ∷ xs) = parties_end o xs

-- what a DP holds
abbrev procured_by : Record → List ℕ
procured_by r = held r procurement_amount

abbrev pub plus_procurement : Open → Record → Open
plus_procurement o r = with_procurement o (blank (held r procurement_amount)) (cents (held r procurement_amount))

-- the same payment with other counts and sums
abbrev counted : Open → ℕ → Signed → ℕ → Bool → Amount → Open
counted o accounts sum procurements blank procured =
    record {
      number = o.number;
      context = o.context;
      amount = o.amount;
      accounts = accounts;
      sum = sum;
      procurements = procurements;
      blank = blank;
      procured = procured;
    }

-- DP add to their count and to their sum; whether the first was blank stays known
procured_later : (o : Open) (ps : List Record) → 1 ≤ o.procurements
    → let vs = map procured_by ps in
    grown plus_procurement o ps ≡ counted o o.accounts o.sum (o.procurements + length vs) o.blank (added o.procured (all_cents vs))
unfolding grown with_procurement added all_cents choose
procured_later o [] h = λ i. counted o o.accounts o.sum (none_more o.procurements i) o.blank o.procured
procured_later o (p ∷ ps) h =
    let vs = map procured_by ps in
    let e : eqb o.procurements 0 ≡ false = ne_eqb o.procurements 0 (λ (q : o.procurements ≡ 0). omega (arith, h, q)) in
    procured_later (plus_procurement o p) ps (omega (arith, h))
    ∙ (λ i. counted o o.accounts o.sum (one_more o.procurements (length vs) i) (choose (e i) (blank (procured_by p)) o.blank)
    (added o.procured (cents (procured_by p) ∷ all_cents vs)))

-- the first of the DP is blank
unfoldable first_blank : List (List ℕ) → Bool
first_blank [] = false
first_blank (v ∷ vs) = blank v

-- a payment with DT and DP, by what they enter and hold
abbrev standing : ℕ → Context → ℕ → List Entry → List (List ℕ) → Open
standing n c paid es vs =
    record {
      number = n;
      context = c;
      amount = split paid;
      accounts = length es;
      sum = record { positive = split (total (side false es)); negative = split (total (side true es)) };
      procurements = length vs;
      blank = first_blank vs;
      procured = split (total (all_cents vs));
    }

procured_end : (n : ℕ) (c : Context) (a : ℕ) (es : List Entry) (ps : List Record)
    → grown plus_procurement (standing n c a es []) ps ≡ standing n c a es (map procured_by ps)
unfolding grown with_procurement first_blank all_cents total choose
procured_end n c a es [] = refl
procured_end n c a es (p ∷ ps) =
    let o = standing n c a es [] in
    procured_later (plus_procurement o p) ps (omega arith)
    ∙ (λ i. counted o o.accounts o.sum (count i) (blank (procured_by p)) (sum i))
  where
    vs : List (List ℕ)
    vs = map procured_by ps

    count : 0 + 1 + length vs ≡ suc (length vs)
    count = omega arith

    sum : added (split (worth (split 0) + cents (procured_by p))) (all_cents vs) ≡ split (cents (procured_by p) + total (all_cents vs))
    sum = rw (worth_split, from_none) (added_total (all_cents vs) (cents (procured_by p)))

-- 10
unless : (t b : Bool) → ◌≡◌ {A = Checked Reason} (choose t sound (choose b sound (Err Procurements))) (choose (choose t true b) sound (Err Procurements))
unfolding choose
unless true b = refl
unless false b = refl

procurement_end : (n : ℕ) (c : Context) (a : ℕ) (es : List Entry) (vs : List (List ℕ))
    → procurement_reason (standing n c a es vs) ≡ choose (procures a vs) sound (Err Procurements)
unfolding procurement_reason procures lone_blank first_blank all_cents total choose
procurement_end n c a es [] = refl
procurement_end n c a es (v ∷ []) = simp worth_split (rw (← none_more (cents v)) (unless (blank v) (eqb (cents v) a)))
procurement_end n c a es (v ∷ w ∷ vs) = rw (not_none (suc (length vs)), not_one (length vs)) (simp worth_split)

-- 9
one_side : (credit : Bool) (m : ℕ) → total (side false ((credit, m) ∷ [])) + total (side true ((credit, m) ∷ [])) ≡ m
unfolding total side choose
one_side true m = omega arith
one_side false m = omega arith

account_end : (n : ℕ) (c : Context) (a : ℕ) (es : List Entry) (vs : List (List ℕ)) → account_reason (standing n c a es vs) ≡ choose (balances a es) sound (Err Accounts)
unfolding account_reason balances comes_to choose
account_end n c a [] vs = refl
account_end n c a (e ∷ []) vs = simp worth_split (ap (λ (k : ℕ). choose (eqb k a) sound (Err Accounts)) (one_side e.0 e.1))
account_end n c a (e ∷ d ∷ es) vs = rw (not_none (suc (length es)), not_one (length es)) (simp worth_split)

-- a field that is sound adds nothing
skip : (f : Checked Finding) (n k : ℕ) (xs : List (Checked Finding)) → after f (found sound n k ∷ xs) ≡ after f xs
unfolding after noted found
skip (Ok tt) n k xs = refl
skip (Err f) n k xs = refl

pub after_none : (f : Checked Finding) → after f [] ≡ f
unfolding after
after_none f = refl

-- nothing is wrong with a payment of nothing that no reporter makes
pub empty_end : (f : Checked Finding) (n : ℕ) (c : Context) → c.reporter ≡ false → after f (ended (opened n c (split 0))) ≡ f
unfolding ended opened account_reason procurement_reason lack_reason choose ◌and◌
empty_end f n c e =
    rw e (skip f n 87 (found sound n 96 ∷ found sound n 76 ∷ []) ∙ skip f n 96 (found sound n 76 ∷ []) ∙ skip f n 76 [] ∙ after_none f)

-- the rules of a table that is every letter's are the same for each
every_letter : (l : Letter) → among l any_letter ≡ true
unfolding among letter_byte ◌or◌
every_letter N = refl
every_letter C = refl
every_letter W = refl
every_letter I = refl
every_letter A = refl

pub letterless : (l : Letter) (rs : List Rule) → All (λ r. r.letters ≡ any_letter) rs → rules_for N rs ≡ rules_for l rs
unfolding rows
letterless l [] os = refl
letterless l (r ∷ rs) os = rw (os.0, every_letter l, every_letter N, letterless l rs os.1)

-- a first DP that may be blank, and may not once there is a second
own_first : (f : Checked Finding) (n : ℕ) (v : List ℕ) (xs : List (Checked Finding))
    → after f (found (if_number v) n 96 ∷ found (choose (blank v) (Err Blank) sound) n 96 ∷ xs) ≡ after f (found (number v) n 96 ∷ xs)
unfolding if_number number choose
own_first f n v xs = go (blank v)
  where
    shape : Checked Reason
    shape = choose (digits v) sound (Err Shape)

    go : (t : Bool)
        → after f (found (choose t sound shape) n 96 ∷ found (choose t (Err Blank) sound) n 96 ∷ xs) ≡ after f (found (choose t (Err Blank) shape) n 96 ∷ xs)
    go true = skip f n 96 (found (Err Blank) n 96 ∷ xs)
    go false = after_append f (found shape n 96 ∷ []) (found sound n 96 ∷ xs) ∙ skip (after f (found shape n 96 ∷ [])) n 96 xs ∙ sym (after_append f (found shape n 96 ∷ []) xs)

-- what a record of the payment knows where nothing of its own is looked up: what the payment's records know
abbrev pub same : Context → Record → Context
same c r = c

-- what rules find in a record of the payment, with what it knows
abbrev pub find_by : (Context → Record → Context) → List Rule → Open → ℕ → Record → List (Checked Finding)
find_by knows rules o n r = findings (knows o.context r) n r rules

-- records of one table
pub found_each : (knows : Context → Record → Context) (rules : List Rule) (adds : Open → Record → Open) → ((o : Open) (r : Record) → (adds o r).context ≡ o.context)
    → (o : Open) (n : ℕ) (rs : List Record) → found_in (find_by knows rules) adds o n rs ≡ each (knows o.context) rules n rs
unfolding found_in each
found_each knows rules adds keeps o n [] = refl
found_each knows rules adds keeps o n (r ∷ rs) =
    ap (λ (xs : List (Checked Finding)). find_by knows rules o n r ++ xs)
    (found_each knows rules adds keeps (adds o r) (n + 1) rs ∙ ap (λ (c : Context). each (knows c) rules (n + 1) rs) (keeps o r))

-- the tables of a DP have one row
lone_row : (o : Open) (n : ℕ) (p : Record) → find_by same (rules_for N lone_procurement) o n p ≡ found (if_number (procured_by p)) n 96 ∷ []
unfolding rows among lone_procurement letter_byte choose ◌and◌ ◌or◌ findings reason
lone_row o n p = refl

row : (o : Open) (n : ℕ) (p : Record) → find_by same (rules_for N procurement) o n p ≡ found (number (procured_by p)) n 96 ∷ []
unfolding rows among procurement letter_byte choose ◌and◌ ◌or◌ findings reason
row o n p = refl

-- what a first DP finds, a second, and a later one
next_first : (o : Open) (n : ℕ) (p : Record) → o.procurements ≡ 0
    → next_procurement o n p ≡ found sound (n - 1) 96 ∷ find_by same (rules_for N lone_procurement) o n p
unfolding next_procurement lone_blank choose
next_first o n p e = rw e

next_second : (o : Open) (n : ℕ) (p q : Record) → o.procurements ≡ 0
    → next_procurement (plus_procurement o p) (n + 1) q
    ≡ found (choose (blank (procured_by p)) (Err Blank) sound) n 96 ∷ find_by same (rules_for N procurement) o (n + 1) q
unfolding next_procurement lone_blank with_procurement choose
next_second o n p q e =
    let b : n + 1 - 1 ≡ n = omega arith in
    rw (e, b)

next_later : (o : Open) (n : ℕ) (p : Record) → 2 ≤ o.procurements
    → next_procurement o n p ≡ found sound (n - 1) 96 ∷ find_by same (rules_for N procurement) o n p
unfolding next_procurement lone_blank choose
next_later o n p h =
    let a : eqb o.procurements 0 ≡ false = ne_eqb o.procurements 0 (λ (q : o.procurements ≡ 0). omega (arith, h, q)) in
    let b : eqb o.procurements 1 ≡ false = ne_eqb o.procurements 1 (λ (q : o.procurements ≡ 1). omega (arith, h, q)) in
    rw (a, b)

-- DP of one payment
abbrev next_in : Open → ℕ → List Record → List (Checked Finding)
next_in = found_in (next_procurement) plus_procurement

-- from the third on
found_later : (f : Checked Finding) (o : Open) (n : ℕ) (ps : List Record) → 2 ≤ o.procurements
    → after f (next_in o n ps) ≡ after f (each (same o.context) (rules_for N procurement) n ps)
unfolding found_in each with_procurement
found_later f o n [] h = refl
found_later f o n (p ∷ ps) h =
    let own = find_by same (rules_for N procurement) o n p in
    let more = next_in (plus_procurement o p) (n + 1) ps in
    ap (λ (xs : List (Checked Finding)). after f (xs ++ more)) (next_later o n p h)
    ∙ skip f (n - 1) 96 (own ++ more)
    ∙ after_append f own more
    ∙ found_later (after f own) (plus_procurement o p) (n + 1) ps (omega (arith, h))
    ∙ sym (after_append f own (each (same o.context) (rules_for N procurement) (n + 1) ps))

-- two or more
found_several : (f : Checked Finding) (o : Open) (n : ℕ) (p q : Record) (ps : List Record) → o.procurements ≡ 0
    → after f (next_in o n (p ∷ q ∷ ps)) ≡ after f (each (same o.context) (rules_for N procurement) n (p ∷ q ∷ ps))
unfolding found_in each with_procurement
found_several f o n p q ps e =
    let own = find_by same (rules_for N procurement) o (n + 1) q in
    let begun = found (if_number (procured_by p)) n 96 ∷ found (choose (blank (procured_by p)) (Err Blank) sound) n 96 ∷ own in
    let next = plus_procurement (plus_procurement o p) q in
    let more = next_in next (n + 1 + 1) ps in
    let rest = each (same o.context) (rules_for N procurement) (n + 1 + 1) ps in
    (λ i. after f (next_first o n p e i ++ (next_second o n p q e i ++ more)))
    ∙ skip f (n - 1) 96 _
    ∙ (λ i. after f (lone_row o n p i ++ (found (choose (blank (procured_by p)) (Err Blank) sound) n 96 ∷ (own ++ more))))
    ∙ after_append f begun more
    ∙ found_later (after f begun) next (n + 1 + 1) ps (omega (arith, e))
    ∙ sym (after_append f begun rest)
    ∙ own_first f n (procured_by p) (own ++ rest)
    ∙ ap (λ (xs : List (Checked Finding)). after f (xs ++ (own ++ rest))) (sym (row o n p))

-- any number
pub found_procurements : (l : Letter) (f : Checked Finding) (o : Open) (n : ℕ) (ps : List Record) → o.procurements ≡ 0
    → after f (found_in (next_procurement) plus_procurement o n ps) ≡ after f (each_procurement l o.context n ps)
unfolding found_in each each_procurement procurement lone_procurement
found_procurements l f o n [] e = refl
found_procurements l f o n (p ∷ []) e =
    ap (λ (xs : List (Checked Finding)). after f (xs ++ [])) (next_first o n p e)
    ∙ skip f (n - 1) 96 _
    ∙ ap (λ (rs : List Rule). after f (each (same o.context) rs n (p ∷ []))) (letterless l lone_procurement (refl, tt))
found_procurements l f o n (p ∷ q ∷ ps) e =
    found_several f o n p q ps e
    ∙ ap (λ (rs : List Rule). after f (each (same o.context) rs n (p ∷ q ∷ ps))) (letterless l procurement (refl, tt))

module _ (book : Contents) where
  abbrev pub plus_account : Open → Record → Open
  plus_account o t = with_account o (unwrap_or (betc book t) false) (cents (held t account_amount))

  -- DT add to their count and to the signed sum
  accounts_counted : (o : Open) (ts : List Record)
      → let es = map (entry_of book) ts in
      grown plus_account o ts ≡ counted o (o.accounts + length es) (entered_all o.sum es) o.procurements o.blank o.procured
  unfolding grown with_account entered_all entry_of
  accounts_counted o [] = λ i. counted o (none_more o.accounts i) o.sum o.procurements o.blank o.procured
  accounts_counted o (t ∷ ts) =
      let es = map (entry_of book) ts in
      let sum = entered_all o.sum (entry_of book t ∷ es) in
      accounts_counted (plus_account o t) ts
      ∙ (λ i. counted o (one_more o.accounts (length es) i) sum o.procurements o.blank o.procured)

  -- and leave the rest
  pub accounts_keep : (o : Open) (ts : List Record)
      → ((grown plus_account o ts).context ≡ o.context) × ((grown plus_account o ts).procurements ≡ o.procurements)
  accounts_keep o ts =
      let e = accounts_counted o ts in
      (ap (λ (u : Open). u.context) e, ap (λ (u : Open). u.procurements) e)

  accounts_end : (n : ℕ) (c : Context) (a : ℕ) (ts : List Record)
      → grown plus_account (opened n c (split a)) ts ≡ standing n c a (map (entry_of book) ts) []
  unfolding opened first_blank all_cents total
  accounts_end n c a ts =
      let es = map (entry_of book) ts in
      let o = standing n c a es [] in
      let e : entered_all (record { positive = split 0; negative = split 0 }) es ≡ o.sum =
      entered_total es 0 0
      ∙ (λ i. record { positive = split (from_none (total (side false es)) i); negative = split (from_none (total (side true es)) i) }) in
      accounts_counted (opened n c (split a)) ts ∙ (λ i. counted o (from_none (length es) i) (e i) 0 false (split 0))

  -- 11
  lack_end : (n : ℕ) (c : Context) (a : ℕ) (ts : List Record) (vs : List (List ℕ))
      → lack_reason (standing n c a (map (entry_of book) ts) vs) ≡ choose (c.reporter and no_records ts) (Err Lacking) sound
  unfolding lack_reason no_records
  lack_end n c a [] vs = refl
  lack_end n c a (t ∷ ts) vs = rw (not_none (length (map (entry_of book) ts)))

  -- a payment after all its records
  abbrev pub end_of : ℕ → Context → Payment → Open
  end_of n c p = grown plus_procurement (grown plus_account (opened n c (split (paid p))) p.accounts) p.procurements

  -- what is wrong with its sums
  pub sums_end : (n : ℕ) (c : Context) (p : Payment) → ended (end_of n c p) ≡ sums book c.reporter n p
  unfolding ended sums
  sums_end n c p =
      let es = map (entry_of book) p.accounts in
      let vs = map procured_by p.procurements in
      rw (accounts_end n c (paid p) p.accounts, procured_end n c (paid p) es p.procurements)
      (λ i. found (account_end n c (paid p) es vs i) n 87
      ∷ found (procurement_end n c (paid p) es vs i) n 96
      ∷ found (lack_end n c (paid p) p.accounts vs i) n 76
      ∷ [])
