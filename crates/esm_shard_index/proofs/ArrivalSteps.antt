-- How the moments of arrival as they are kept follow the history.
use Rattle.std.proofs.Common.{◌≡◌, ℕ, zero, suc, ◌+◌, ◌<◌, ◌≤◌, true, false, List, [], ◌∷◌, ◌++◌, length, get_or, refl, sym, ap, ◌∙◌, inl, inr, arith}
use Rattle.std.specs.Prelude.{nat_le, nat_lt, if◌then◌else◌}
use Rattle.std.proofs.lemmas.Bool.{cases_Bool, cases_lt, eq-eqb, le-leb, lt-ltb, leb-true, and_from}
use Rattle.esm_model.specs.declared.entry.Entry.{Entry}
use Rattle.esm_model.specs.declared.entry.Entry.TheVariants.{Came, Began, Ended, Gave, Tried, Closed, Replayed, Shut}
use Rattle.esm_model.specs.Entries.{came_count, came_moment, covers}
use Rattle.esm_model.proofs.Steps.{came_of_shard}
use Rattle.esm_shard_index.specs.declared.arrivals.Arrival.{Arrival}
use Rattle.esm_shard_index.specs.Arrivals.{Coming, arrival, moment_from, moment_in}
use Rattle.esm_shard_index.specs.ArrivalsLaws.{ArrivalsBegin, ArrivalsCome, ArrivalsStay}

-- runs

pub moment_before : (runs : List Arrival) (before i : ℕ) → ((k : ℕ) (d : Arrival) → k < length runs → nat_le (get_or runs k d).first i ≡ false) → moment_from before runs i ≡ before
moment_before [] before i past = refl
moment_before (r ∷ runs) before i past =
    ap (λ b. moment_from (if b then r.moment else before) runs i) (past 0 r (omega arith))
    ∙ moment_before runs before i (λ k d low. past (suc k) d (omega arith))

-- where the runs up to one begin at the place or before it, and the others past it
pub moment_at : (runs : List Arrival) (before i j : ℕ) → j < length runs
    → ((k : ℕ) (d : Arrival) → k ≤ j → nat_le (get_or runs k d).first i ≡ true)
    → ((k : ℕ) (d : Arrival) → j < k → k < length runs → nat_le (get_or runs k d).first i ≡ false)
    → (d : Arrival) → moment_from before runs i ≡ (get_or runs j d).moment
moment_at [] before i j low to past d = absurd (omega arith)
moment_at (r ∷ runs) before i zero low to past d =
    ap (λ b. moment_from (if b then r.moment else before) runs i) (to 0 r (omega arith))
    ∙ moment_before runs r.moment i (λ k d low. past (suc k) d (omega arith) (omega arith))
moment_at (r ∷ runs) before i (suc j) low to past d =
    moment_at runs (if nat_le r.first i then r.moment else before) i j (omega arith)
    (λ k d low. to (suc k) d (omega arith)) (λ k d above low. past (suc k) d (omega arith) (omega arith)) d

pub moment-push : (runs : List Arrival) (before i : ℕ) (r : Arrival) → moment_from before (runs ++ r ∷ []) i ≡ (if nat_le r.first i then r.moment else moment_from before runs i)
moment-push [] before i r = refl
moment-push (q ∷ runs) before i r = moment-push runs (if nat_le q.first i then q.moment else before) i r

-- laws

pub arrivals_begin : (n : ℕ) (v : Coming) → ArrivalsBegin n v
arrivals_begin n v none zeros = record { came = zeros; moments = λ i low. absurd (omega arith) }

pub arrivals_stay : (h : List Entry) (n : ℕ) (v : Coming) → ArrivalsStay h n v
arrivals_stay h n v (Came shard first count m) off is = record {
  came = is.came ∙ rw off refl;
  moments = λ i low. is.moments i (rw off at low) ∙ rw off refl;
}
arrivals_stay h n v (Began lane places closing m) off is = record { came = is.came; moments = is.moments }
arrivals_stay h n v (Ended lane reply m) off is = record { came = is.came; moments = is.moments }
arrivals_stay h n v (Gave by shard places f line state m) off is = record { came = is.came; moments = is.moments }
arrivals_stay h n v (Tried lane places closing tries m) off is = record { came = is.came; moments = is.moments }
arrivals_stay h n v (Closed lane w m) off is = record { came = is.came; moments = is.moments }
arrivals_stay h n v (Replayed shard places m) off is = record { came = is.came; moments = is.moments }
arrivals_stay h n v (Shut m) off is = record { came = is.came; moments = is.moments }

covered : (n c count i : ℕ) (m : ℕ) → c ≤ i → i < c + count → covers n i (Came n c count m) ≡ true
covered n c count i m low high = rw (eq-eqb n n refl) (and_from (nat_le c i) (nat_lt i (c + count)) (le-leb c i low) (lt-ltb i (c + count) high))

uncovered : (n c count i : ℕ) (m : ℕ) → nat_le c i ≡ false → covers n i (Came n c count m) ≡ false
uncovered n c count i m before = rw (eq-eqb n n refl, before) refl

below_false : (c i : ℕ) → i < c → nat_le c i ≡ false
below_false c i low = elim (cases_Bool (nat_le c i)) [ inl is ↦ absurd (let l : c ≤ i = leb-true c i is in omega arith) | inr not' ↦ not' ]

pub arrivals_come : (h : List Entry) (n : ℕ) (v : Coming) → ArrivalsCome h n v
arrivals_come h n v after count m is runs came =
    let more : came_count (Came n (came_count h n) count m ∷ h) n ≡ count + came_count h n = came_of_shard n (came_count h n) count m h in
    record {
      came = (let before = is.came in omega arith);
      moments = λ i low.
          ap (λ (rs : List Arrival). moment_in rs i) runs ∙ moment-push v.runs 0 i (arrival v.came m)
          ∙ ap (λ c. if nat_le c i then m else moment_in v.runs i) is.came
          ∙ elim (cases_lt i (came_count h n)) [
            | inl old ↦
                ap (λ b. if b then m else moment_in v.runs i) (below_false (came_count h n) i old)
                ∙ is.moments i old
                ∙ sym (ap (λ b. if b then m else came_moment h n i) (uncovered n (came_count h n) count i m (below_false (came_count h n) i old)))
            | inr new ↦
                ap (λ b. if b then m else moment_in v.runs i) (le-leb (came_count h n) i new)
                ∙ sym (ap (λ b. if b then m else came_moment h n i) (covered n (came_count h n) count i m new (omega (arith, more, low))))
          ];
    }
