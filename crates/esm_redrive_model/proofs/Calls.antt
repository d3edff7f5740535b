-- A legal redrive makes no more calls than its messages may be received.
use Rattle.std.proofs.Common.{◌≡◌, ℕ, zero, suc, ◌+◌, ◌-◌, ◌*◌, ◌<◌, ◌≤◌, Bool, true, false, cond, List, [], ◌∷◌, length, refl, subst, inl, inr, arith, Some, None}
use Rattle.std.proofs.lemmas.Bool.{cases_lt}
use Rattle.esm_model.specs.declared.entry.Entry.{Entry}
use Rattle.esm_model.specs.declared.entry.Entry.TheVariants.{Came, Began, Ended, Gave, Tried, Closed, Replayed, Shut}
use Rattle.esm_model.specs.Entries.{holds, calls_begun}
use Rattle.esm_queue_model.specs.QueueEntries.{queue_count}
use Rattle.esm_queue_model.proofs.Places.{In, In-here}
use Rattle.esm_queue_model.proofs.MoreMessages.{count_grows}
use Rattle.esm_redrive_model.specs.RedriveSetting.{RedriveSetting}
use Rattle.esm_redrive_model.specs.Due.{receives}
use Rattle.esm_redrive_model.specs.RedriveStep.{LegalRedrive}
use Rattle.esm_redrive_model.specs.RedriveLaws.{CallsAreFew}
use Rattle.esm_redrive_model.proofs.Built.{called_came}
use Rattle.esm_redrive_model.proofs.Named.{built_of, builds}
use Rattle.esm_redrive_model.proofs.Moves.{received_at_most_in}

-- sums over the places below n

abbrev sum_to : (ℕ → ℕ) → ℕ → ℕ
sum_to f zero = 0
sum_to f (suc n) = sum_to f n + f n

sum_low : (f g : ℕ → ℕ) (n : ℕ) → ((i : ℕ) → f i ≤ g i) → sum_to f n ≤ sum_to g n
sum_low f g zero low = omega arith
sum_low f g (suc n) low = let rest = sum_low f g n low in let here = low n in omega (arith, rest, here)

sum_more : (f g : ℕ → ℕ) (n k : ℕ) → k < n → ((i : ℕ) → f i ≤ g i) → f k < g k → sum_to f n < sum_to g n
sum_more f g zero k within low more = absurd (omega (arith, within))
sum_more f g (suc n) k within low more =
    elim (cases_lt k n) [
      | inl before ↦ (let rest = sum_more f g n k before low more in let here = low n in omega (arith, rest, here))
      | inr last ↦
          (let same : k ≡ n = omega (arith, within, last) in
          let rest = sum_low f g n low in
          let here : f n < g n = subst (λ (i : ℕ). f i < g i) same more in
          omega (arith, rest, here))
    ]

sum_wide : (f : ℕ → ℕ) (n m : ℕ) → sum_to f n ≤ sum_to f (n + m)
sum_wide f n zero = let e : n + 0 ≡ n = omega arith in rw e (omega arith)
sum_wide f n (suc m) = let e : n + suc m ≡ suc (n + m) = omega arith in let rest = sum_wide f n m in rw e (omega (arith, rest))

sum_at_most : (f : ℕ → ℕ) (n b : ℕ) → ((i : ℕ) → f i ≤ b) → sum_to f n ≤ n * b
sum_at_most f zero b low = omega arith
sum_at_most f (suc n) b low = let rest = sum_at_most f n b low in let here = low n in omega (arith, rest, here)

-- each call receives one message at least

once_more : (b : Bool) (n : ℕ) → n ≤ cond b (suc n) n
once_more true n = omega arith
once_more false n = omega arith

first_in : (places : List ℕ) → 1 ≤ length places → (k : ℕ) × In places k
first_in [] some = absurd (omega (arith, some))
first_in (k ∷ places) some = (k, In-here k places k refl)

calls_low : (s : RedriveSetting) (h : List Entry) → LegalRedrive s h → calls_begun h ≤ sum_to (receives h) (queue_count h)
calls_low s [] legal = omega arith
calls_low s (Came shard first count m ∷ h) legal =
    let grows = count_grows h (Came shard first count m) in
    let n = queue_count h in
    let n' = queue_count (Came shard first count m ∷ h) in
    let whole : n + (n' - n) ≡ n' = omega (arith, grows) in
    let rest = calls_low s h legal.0 in
    let wide : sum_to (receives h) n ≤ sum_to (receives h) n' = subst (λ (k : ℕ). sum_to (receives h) n ≤ sum_to (receives h) k) whole (sum_wide (receives h) n (n' - n)) in
    omega (arith, rest, wide)
calls_low s (Began lane places None m ∷ h) legal =
    let e = Began lane places None m in
    let rest = calls_low s h legal.0 in
    let built = built_of s h legal.0 in
    let first = first_in places legal.1.1.some in
    let low : first.0 < queue_count h = called_came s.queue h places m first.0 built (builds s h e built legal.1.1) first.1 in
    let here : receives h first.0 < receives (e ∷ h) first.0 = rw first.1 (omega arith) in
    let more = sum_more (receives h) (receives (e ∷ h)) (queue_count h) first.0 low (λ i. once_more (holds places i) (receives h i)) here in
    omega (arith, rest, more)
calls_low s (Began lane places (Some window) m ∷ h) legal = absurd legal.1.1
calls_low s (Ended lane reply m ∷ h) legal = calls_low s h legal.0
calls_low s (Gave by shard places f line state m ∷ h) legal = calls_low s h legal.0
calls_low s (Tried lane places closing tries m ∷ h) legal = calls_low s h legal.0
calls_low s (Closed lane window m ∷ h) legal = calls_low s h legal.0
calls_low s (Replayed shard places m ∷ h) legal = calls_low s h legal.0
calls_low s (Shut m ∷ h) legal = calls_low s h legal.0

pub calls_are_few_in : (s : RedriveSetting) (h : List Entry) → LegalRedrive s h → CallsAreFew s h
calls_are_few_in s h legal =
    let low = calls_low s h legal in
    let most = sum_at_most (receives h) (queue_count h) s.max_receives (received_at_most_in s h legal) in
    omega (arith, low, most)
