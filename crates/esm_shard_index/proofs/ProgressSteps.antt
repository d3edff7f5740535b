-- How the fates of a shard as they are kept follow the history.
use Rattle.std.proofs.Common.{◌≡◌, ℕ, zero, suc, ◌+◌, ◌-◌, ◌<◌, ◌≤◌, Bool, true, false, cond, ◌&&◌, ◌||◌, List, [], ◌∷◌, ◌++◌, length, get_or, drop, refl, sym, ap, ◌∙◌, subst, inl, inr, Option, Some, None, arith, length-append}
use Rattle.std.specs.Prelude.{◌==◌, filter, map, take_while, is_some, is_none, if◌then◌else◌}
use Rattle.std.specs.Option.{option_or}
use Rattle.std.proofs.lemmas.Bool.{cases_Bool, cases_lt, eq-eqb}
use Rattle.std.proofs.lemmas.List.Sums.{take_while-cons}
use Rattle.std.proofs.lemmas.List.Elements.{filter-append, filter_agree}
use Rattle.esm_model.specs.declared.entry.Fate.{Fate}
use Rattle.esm_model.specs.declared.entry.Fate.TheVariants.{Succeeded, Filtered, Expired, Exhausted}
use Rattle.esm_model.specs.declared.entry.Entry.{Entry}
use Rattle.esm_model.specs.declared.entry.Entry.TheVariants.{Came, Began, Ended, Gave, Tried, Closed, Replayed, Shut}
use Rattle.esm_model.specs.Setting.{Setting}
use Rattle.esm_model.specs.Entries.{holds, came_count}
use Rattle.esm_model.specs.Fates.{given, fate, has_fate, below, same_fate, is_fate, fate_count}
use Rattle.esm_model.specs.Checkpoint.{checkpoint}
use Rattle.esm_model.proofs.Lists.{not_in}
use Rattle.esm_model.proofs.Counts.{length-below}
use Rattle.esm_model.proofs.Steps.{came_of_shard}
use Rattle.esm_shard_index.specs.FateCounts.{count_in}
use Rattle.esm_shard_index.specs.Progress.{Tally, IsProgress, found_at, number_of, front_of, past_of}
use Rattle.esm_shard_index.specs.ProgressLaws.{ProgressBegins, ProgressComes, ProgressGives, ProgressStays, ProgressTells}
use Rattle.esm_shard_index.proofs.Places.{below_from, map_below, passes_from}
use Rattle.esm_shard_index.specs.Places.{places_from}

pub progress_begins : (s : Setting) (n : ℕ) (t : Tally) → ProgressBegins s n t
progress_begins s n t none zeros = record {
  came = ap length none;
  fated = λ i low. absurd (omega arith);
  counts = zeros;
  ahead = λ i low. refl;
}

-- another entry

stays_none : {A : Type 0} (o : Option A) → option_or o None ≡ o
stays_none None = refl
stays_none (Some x) = refl

same_progress : (s : Setting) (e : Entry) (h : List Entry) (n : ℕ) (t : Tally) → came_count (e ∷ h) n ≡ came_count h n → ((i : ℕ) → given (e ∷ h) n i ≡ given h n i) → IsProgress s h n t → IsProgress s (e ∷ h) n t
same_progress s e h n t came given_same p =
    let fates : (i : ℕ) → fate s (e ∷ h) n i ≡ fate s h n i = λ (i : ℕ). ap (option_or (found_at s n i)) (given_same i) in
    record {
      came = p.came ∙ sym came;
      fated = λ i low. p.fated i (subst (λ k. i < k) came low) ∙ ap is_some (sym (fates i));
      counts = λ f. p.counts f
          ∙ sym (ap length (filter_agree (λ i. is_fate f (fate s (e ∷ h) n i)) (λ i. is_fate f (fate s h n i)) (λ i. ap (is_fate f) (fates i)) (below (came_count h n))))
          ∙ ap (λ k. length (filter (λ i. is_fate f (fate s (e ∷ h) n i)) (below k))) (sym came);
      ahead = λ i low. given_same i ∙ p.ahead i (subst (λ k. k ≤ i) came low);
    }

pub progress_stays : (s : Setting) (h : List Entry) (n : ℕ) (t : Tally) → ProgressStays s h n t
progress_stays s h n t (Came shard first count m) off p = same_progress s (Came shard first count m) h n t (rw off refl) (λ i. refl) p
progress_stays s h n t (Gave by shard places f line state m) off p = same_progress s (Gave by shard places f line state m) h n t refl (λ i. rw off (stays_none (given h n i))) p
progress_stays s h n t (Began lane places closing m) off p = same_progress s (Began lane places closing m) h n t refl (λ i. refl) p
progress_stays s h n t (Ended lane reply m) off p = same_progress s (Ended lane reply m) h n t refl (λ i. refl) p
progress_stays s h n t (Tried lane places closing tries m) off p = same_progress s (Tried lane places closing tries m) h n t refl (λ i. refl) p
progress_stays s h n t (Closed lane w m) off p = same_progress s (Closed lane w m) h n t refl (λ i. refl) p
progress_stays s h n t (Replayed shard places m) off p = same_progress s (Replayed shard places m) h n t refl (λ i. refl) p
progress_stays s h n t (Shut m) off p = same_progress s (Shut m) h n t refl (λ i. refl) p

-- records come

length-map_some : (xs : List (Option Fate)) → length (map is_some xs) ≡ length xs
length-map_some [] = refl
length-map_some (x ∷ xs) = ap suc (length-map_some xs)

get-map_some : (xs : List (Option Fate)) (k : ℕ) → k < length xs → get_or (map is_some xs) k false ≡ is_some (get_or xs k None)
get-map_some [] k low = absurd (omega arith)
get-map_some (x ∷ xs) zero low = refl
get-map_some (x ∷ xs) (suc k) low = get-map_some xs k (omega arith)

get_right : (bs cs : List Bool) (k : ℕ) → get_or (bs ++ cs) (length bs + k) false ≡ get_or cs k false
get_right [] cs k = (let e : 0 + k ≡ k = omega arith in ap (λ j. get_or cs j false) e)
get_right (b ∷ bs) cs k = (let e : length (b ∷ bs) + k ≡ suc (length bs + k) = omega arith in ap (λ j. get_or (b ∷ (bs ++ cs)) j false) e ∙ get_right bs cs k)

get_left : (bs cs : List Bool) (i : ℕ) → i < length bs → get_or (bs ++ cs) i false ≡ get_or bs i false
get_left [] cs i low = absurd (omega arith)
get_left (b ∷ bs) cs zero low = refl
get_left (b ∷ bs) cs (suc i) low = get_left bs cs i (omega arith)

pub progress_comes : (s : Setting) (h : List Entry) (n : ℕ) (t : Tally) → ProgressComes s h n t
progress_comes s h n t after found first count m p many are fated_is counts_is =
    let c = came_count h n in
    let e = Came n first count m in
    let came : came_count (e ∷ h) n ≡ count + came_count h n = came_of_shard n first count m h in
    let new : (k : ℕ) → k < length found → get_or found k None ≡ fate s h n (came_count h n + k) =
    λ (k : ℕ) (low : k < length found). are k low ∙ sym (ap (option_or (found_at s n (came_count h n + k))) (p.ahead (came_count h n + k) (omega arith)) ∙ stays_none (found_at s n (came_count h n + k))) in
    record {
      came = ap length fated_is ∙ length-append t.fated (map is_some found) ∙ (let long = p.came in let more = length-map_some found in omega (arith, came));
      fated = λ i low. ap (λ (bs : List Bool). get_or bs i false) fated_is
          ∙ elim (cases_lt i (came_count h n)) [
            | inl old ↦ get_left t.fated (map is_some found) i (omega (arith, p.came)) ∙ p.fated i old
            | inr past ↦ fated_new s h n t found p new i past (omega (arith, came, past))
          ];
      counts = λ f. counts_is f
          ∙ ap (λ k. k + length (filter (is_fate f) found)) (p.counts f)
          ∙ sym (ap (λ k. length (filter (λ i. is_fate f (fate s h n i)) (below k))) (came ∙ ap (λ k. k + came_count h n) many)
          ∙ ap (λ xs. length (filter (λ i. is_fate f (fate s h n i)) xs)) (below_from (came_count h n) (length found))
          ∙ ap length (filter-append (λ i. is_fate f (fate s h n i)) (below (came_count h n)) (places_from (came_count h n) (length found)))
          ∙ length-append (filter (λ i. is_fate f (fate s h n i)) (below (came_count h n))) (filter (λ i. is_fate f (fate s h n i)) (places_from (came_count h n) (length found)))
          ∙ ap (λ k. fate_count s h n f + k) (passes_from (is_fate f) (fate s h n) None found (came_count h n) new));
      ahead = λ i low. p.ahead i (omega (arith, came, low));
    }
  where
    fated_new : (s : Setting) (h : List Entry) (n : ℕ) (t : Tally) (found : List (Option Fate)) → IsProgress s h n t
        → ((k : ℕ) → k < length found → get_or found k None ≡ fate s h n (came_count h n + k))
        → (i : ℕ) → came_count h n ≤ i → i < length found + came_count h n → get_or (t.fated ++ map is_some found) i false ≡ has_fate s h n i
    fated_new s h n t found p new i past low =
        let k = i - came_count h n in
        let at : i ≡ length t.fated + k = (let long = p.came in omega arith) in
        let same : came_count h n + k ≡ i = omega arith in
        ap (λ j. get_or (t.fated ++ map is_some found) j false) at
        ∙ get_right t.fated (map is_some found) k
        ∙ get-map_some found k (omega arith)
        ∙ ap is_some (new k (omega arith))
        ∙ ap (has_fate s h n) same

-- places get a fate

given_fate : (a b : Option Fate) (t : Bool) (f : Fate) → is_some (option_or a (option_or b (cond t (Some f) None))) ≡ (is_some (option_or a b) || t)
given_fate None None true f = refl
given_fate None None false f = refl
given_fate None (Some x) t f = refl
given_fate (Some x) b t f = refl

other_fate : (a b : Option Fate) (t : Bool) (f g : Fate) → same_fate g f ≡ false → is_fate g (option_or a (option_or b (cond t (Some f) None))) ≡ is_fate g (option_or a b)
other_fate None None true f g other = other
other_fate None None false f g other = refl
other_fate None (Some x) t f g other = refl
other_fate (Some x) b t f g other = refl

abbrev one : Bool → ℕ
one true = 1
one false = 0

same-refl : (f : Fate) → same_fate f f ≡ true
same-refl Succeeded = refl
same-refl Filtered = refl
same-refl Expired = refl
same-refl Exhausted = refl

gains : (a b : Option Fate) (t : Bool) (f : Fate) →
    one (is_fate f (option_or a (option_or b (cond t (Some f) None)))) + one (is_some (option_or a b))
    ≡ one (is_fate f (option_or a b)) + one (is_some (option_or a (option_or b (cond t (Some f) None))))
gains None None true f = rw (same-refl f) refl
gains None None false f = refl
gains None (Some x) t f = refl
gains (Some x) b t f = refl

length-filter : (p : ℕ → Bool) (x : ℕ) (xs : List ℕ) → length (filter p (x ∷ xs)) ≡ one (p x) + length (filter p xs)
length-filter p x xs = by (p x)
  where
    by : (b : Bool) → length (if b then x ∷ filter p xs else filter p xs) ≡ one b + length (filter p xs)
    by true = omega arith
    by false = omega arith

sums_agree : (p q r v : ℕ → Bool) → ((i : ℕ) → one (p i) + one (q i) ≡ one (r i) + one (v i)) → (xs : List ℕ)
    → length (filter p xs) + length (filter q xs) ≡ length (filter r xs) + length (filter v xs)
sums_agree p q r v each [] = refl
sums_agree p q r v each (x ∷ xs) =
    omega (arith, length-filter p x xs, length-filter q x xs, length-filter r x xs, length-filter v x xs, each x, sums_agree p q r v each xs)

same-true : (g f : Fate) → same_fate g f ≡ true → g ≡ f
same-true Succeeded Succeeded is = refl
same-true Filtered Filtered is = refl
same-true Expired Expired is = refl
same-true Exhausted Exhausted is = refl
same-true Succeeded Filtered is = cc
same-true Succeeded Expired is = cc
same-true Succeeded Exhausted is = cc
same-true Filtered Succeeded is = cc
same-true Filtered Expired is = cc
same-true Filtered Exhausted is = cc
same-true Expired Succeeded is = cc
same-true Expired Filtered is = cc
same-true Expired Exhausted is = cc
same-true Exhausted Succeeded is = cc
same-true Exhausted Filtered is = cc
same-true Exhausted Expired is = cc

-- what the tally's list is

number-map : (f : ℕ → Bool) (xs : List ℕ) → number_of (map f xs) ≡ length (filter f xs)
number-map f [] = refl
number-map f (x ∷ xs) = by (f x) (number-map f xs)
  where
    by : (b : Bool) → number_of (map f xs) ≡ length (filter f xs) → number_of (b ∷ map f xs) ≡ length (if b then x ∷ filter f xs else filter f xs)
    by true e = ap suc e
    by false e = e

pub fated_list : (s : Setting) (h : List Entry) (n : ℕ) (t : Tally) → IsProgress s h n t → t.fated ≡ map (has_fate s h n) (below (came_count h n))
fated_list s h n t p = map_below (has_fate s h n) (came_count h n) t.fated p.came p.fated

number_is : (s : Setting) (h : List Entry) (n : ℕ) (t : Tally) → IsProgress s h n t → number_of t.fated ≡ length (filter (has_fate s h n) (below (came_count h n)))
number_is s h n t p = ap number_of (fated_list s h n t p) ∙ number-map (has_fate s h n) (below (came_count h n))

pub progress_gives : (s : Setting) (h : List Entry) (n : ℕ) (t : Tally) → ProgressGives s h n t
progress_gives s h n t after by places f line state m p came long fated_is others_is given_is =
    let e = Gave by n places f line state m in
    let here : (i : ℕ) → ((n == n) && holds places i) ≡ holds places i = λ (i : ℕ). ap (λ b. b && holds places i) (eq-eqb n n refl) in
    let fated : (i : ℕ) → i < came_count h n → get_or after.fated i false ≡ has_fate s (e ∷ h) n i =
    λ (i : ℕ) (low : i < came_count h n). fated_is i (let l = p.came in omega arith)
    ∙ ap (λ b. b || holds places i) (p.fated i low)
    ∙ ap (λ b. has_fate s h n i || b) (sym (here i))
    ∙ sym (given_fate (found_at s n i) (given h n i) ((n == n) && holds places i) f) in
    let number : number_of after.fated ≡ length (filter (has_fate s (e ∷ h) n) (below (came_count h n))) =
    ap number_of (map_below (has_fate s (e ∷ h) n) (came_count h n) after.fated (long ∙ p.came) fated) ∙ number-map (has_fate s (e ∷ h) n) (below (came_count h n)) in
    let sums = sums_agree (λ i. is_fate f (fate s (e ∷ h) n i)) (has_fate s h n) (λ i. is_fate f (fate s h n i)) (has_fate s (e ∷ h) n)
    (λ i. gains (found_at s n i) (given h n i) ((n == n) && holds places i) f) (below (came_count h n)) in
    record {
      came = long ∙ p.came;
      fated = fated;
      counts = λ g. elim (cases_Bool (same_fate g f)) [
        | inr other ↦ others_is g other ∙ p.counts g
            ∙ sym (ap length (filter_agree (λ i. is_fate g (fate s (e ∷ h) n i)) (λ i. is_fate g (fate s h n i))
            (λ i. other_fate (found_at s n i) (given h n i) ((n == n) && holds places i) f g other) (below (came_count h n))))
        | inl same ↦ subst (λ (k : Fate). count_in after.counts k ≡ fate_count s (e ∷ h) n k) (sym (same-true g f same))
            (omega (arith, given_is, p.counts f, number_is s h n t p, number, sums))
      ];
      ahead = λ i low. ap (λ (o : Option Fate). option_or o (cond ((n == n) && holds places i) (Some f) None)) (p.ahead i low)
          ∙ ap (λ b. cond b (Some f) None) (here i ∙ not_in places i (λ m. absurd (let l : i < length t.fated = came i m in let k = p.came in omega arith)));
    }

-- what is read off

front-map : (f : ℕ → Bool) (xs : List ℕ) → front_of (map f xs) ≡ length (take_while f xs)
front-map f [] = refl
front-map f (x ∷ xs) =
    ap length (take_while-cons (λ b. b) (f x) (map f xs)) ∙ by (f x) (front-map f xs) ∙ sym (ap length (take_while-cons f x xs))
  where
    by : (b : Bool) → length (take_while (λ b. b) (map f xs)) ≡ length (take_while f xs)
        → length (cond b (b ∷ take_while (λ b. b) (map f xs)) []) ≡ length (cond b (x ∷ take_while f xs) [])
    by true e = ap suc e
    by false e = refl

drop-map : (f : ℕ → Bool) (k : ℕ) (xs : List ℕ) → drop k (map f xs) ≡ map f (drop k xs)
drop-map f zero xs = refl
drop-map f (suc k) [] = refl
drop-map f (suc k) (x ∷ xs) = drop-map f k xs

lacks_or_has : (g : ℕ → Option Fate) (xs : List ℕ) → length (filter (λ i. is_none (g i)) xs) + length (filter (λ i. is_some (g i)) xs) ≡ length xs
lacks_or_has g [] = refl
lacks_or_has g (x ∷ xs) = (let either = by (g x) in omega (arith, length-filter (λ i. is_none (g i)) x xs, length-filter (λ i. is_some (g i)) x xs, either, lacks_or_has g xs))
  where
    by : (o : Option Fate) → one (is_none o) + one (is_some o) ≡ 1
    by None = refl
    by (Some f) = refl

pub progress_tells : (s : Setting) (h : List Entry) (n : ℕ) (t : Tally) → IsProgress s h n t → ProgressTells s h n t
progress_tells s h n t p =
    let places = below (came_count h n) in
    let fated : t.fated ≡ map (has_fate s h n) (below (came_count h n)) = fated_list s h n t p in
    record {
      checkpoint_is = sym (ap front_of fated ∙ front-map (has_fate s h n) (below (came_count h n)));
      spread_is = sym (ap past_of fated
          ∙ ap (λ k. number_of (drop k (map (has_fate s h n) (below (came_count h n))))) (front-map (has_fate s h n) (below (came_count h n)))
          ∙ ap number_of (drop-map (has_fate s h n) (checkpoint s h n) (below (came_count h n)))
          ∙ number-map (has_fate s h n) (drop (checkpoint s h n) (below (came_count h n))));
      open_is = omega (arith, p.came, length-below (came_count h n), number_is s h n t p, lacks_or_has (fate s h n) (below (came_count h n)));
    }
