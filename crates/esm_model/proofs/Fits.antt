-- A batch is the longest prefix of its group that meets the four limits.
use Rattle.std.proofs.Common.{◌≡◌, ℕ, zero, suc, ◌≤◌, Bool, true, not, ◌&&◌, List, [], ◌∷◌, ◌++◌, length, take, refl, sym, ap, ◌∙◌, subst, ◌⊎◌, inl, inr, Option, Some, None, arith, length-append}
use Rattle.std.specs.Prelude.{◌==◌, ◌+◌, nat_le, filter_map}
use Rattle.std.proofs.lemmas.List.{append-nil}
use Rattle.std.specs.List.{list_all}
use Rattle.std.proofs.lemmas.Bool.{and_parts, and_from, or_cases, or_left, or_right, leb-true, le-leb}
use Rattle.std.proofs.lemmas.List.Elements.{filter_map-append}
use Rattle.std.proofs.lemmas.List.Folds.{list_all-append}
use Rattle.esm_model.specs.declared.limits.TheConstants.{MAX_EVENT}
use Rattle.esm_model.specs.Records.{Record}
use Rattle.esm_model.specs.declared.event.WindowCall.{WindowCall}
use Rattle.esm_model.specs.declared.lane.LaneId.{LaneId}
use Rattle.esm_model.specs.declared.entry.Entry.{Entry}
use Rattle.esm_model.specs.Setting.{Setting, record_at, records_at}
use Rattle.esm_model.specs.Windows.{has_windows, window_of}
use Rattle.esm_model.specs.EventText.{event_text}
use Rattle.esm_model.specs.Calls.{window_call, event_of}
use Rattle.esm_model.specs.Batches.{is_expired, is_one_window, fits, group, batch}
use Rattle.esm_model.specs.Laws.{IsLongestPrefix, BatchIsLongest}
use Rattle.esm_model.proofs.EventLength.{length-event_text-push}
use Rattle.esm_model.proofs.Longest.{IsClosed, IsCut, longest_cut}

list_all_front : (p : ℕ → Bool) (xs : List ℕ) (x : ℕ) → list_all p (xs ++ x ∷ []) ≡ true → list_all p xs ≡ true
list_all_front p xs x all = (and_parts (list_all p xs) (list_all p (x ∷ [])) (sym (list_all-append p xs (x ∷ [])) ∙ all)).0

-- an event with one place more is no shorter
event_grows : (s : Setting) (n : ℕ) (window : Option WindowCall) (xs : List ℕ) (x : ℕ) → length (event_text s.config (records_at s n xs) window) ≤ length (event_text s.config (records_at s n (xs ++ x ∷ [])) window)
event_grows s n window xs x =
    subst (λ rs. length (event_text s.config (records_at s n xs) window) ≤ length (event_text s.config rs window)) (sym (filter_map-append (record_at s n) xs (x ∷ []))) (grows_at (record_at s n x) refl)
  where
    grows_at : (o : Option Record) → record_at s n x ≡ o → length (event_text s.config (records_at s n xs) window) ≤ length (event_text s.config (records_at s n xs ++ filter_map (record_at s n) (x ∷ [])) window)
    grows_at None is = (let none : filter_map (record_at s n) (x ∷ []) ≡ [] = rw is in subst (λ rs. length (event_text s.config (records_at s n xs) window) ≤ length (event_text s.config rs window)) (sym (ap (λ rs. records_at s n xs ++ rs) none ∙ append-nil (records_at s n xs))) (omega arith))
    grows_at (Some r) is = (let one : filter_map (record_at s n) (x ∷ []) ≡ r ∷ [] = rw is in subst (λ rs. length (event_text s.config (records_at s n xs) window) ≤ length (event_text s.config (records_at s n xs ++ rs) window)) (sym one) (length-event_text-push s.config (records_at s n xs) r window))

-- the four limits hold of a prefix that is not empty
pub fits_closed : (s : Setting) (h : List Entry) (n m : ℕ) → IsClosed (fits s h n m)
fits_closed s h n m [] x some all = absurd (omega arith)
fits_closed s h n m (y ∷ ys) x some all =
    let xs = y ∷ ys in
    let more = (y ∷ ys) ++ x ∷ [] in
    let size = nat_le (length more) s.config.batch_size in
    let event = nat_le (length (event_of s h n more None)) MAX_EVENT in
    let window = is_one_window s n more in
    let young = list_all (λ i. not (is_expired s n m i)) more in
    let first = and_parts (size && event && window) young all in
    let second = and_parts (size && event) window first.0 in
    let third = and_parts size event second.0 in
    let size_of : length more ≤ s.config.batch_size = leb-true (length more) s.config.batch_size third.0 in
    let event_len : length (event_of s h n more None) ≤ MAX_EVENT = leb-true (length (event_of s h n more None)) MAX_EVENT third.1 in
    let shorter : length (event_of s h n (y ∷ ys) None) ≤ length (event_of s h n more None) = event_grows s n (window_call s h n (y ∷ ys) None) (y ∷ ys) x in
    let longer : length more ≡ length (y ∷ ys) + 1 = length-append (y ∷ ys) (x ∷ []) in
    and_from _ _ (and_from _ _ (and_from _ _ (le-leb (length (y ∷ ys)) s.config.batch_size (omega (arith, longer, size_of))) (le-leb (length (event_of s h n (y ∷ ys) None)) MAX_EVENT (omega (arith, shorter, event_len))))
    (window_front (or_cases (not (has_windows s.config)) (list_all (λ i. window_of s n i == window_of s n y) more) second.1)))
    (list_all_front (λ i. not (is_expired s n m i)) (y ∷ ys) x first.1)
  where
    window_front : (not (has_windows s.config) ≡ true) ⊎ (list_all (λ i. window_of s n i == window_of s n y) ((y ∷ ys) ++ x ∷ []) ≡ true) → is_one_window s n (y ∷ ys) ≡ true
    window_front (inl none) = or_left (not (has_windows s.config)) (list_all (λ i. window_of s n i == window_of s n y) (y ∷ ys)) none
    window_front (inr one) = or_right (not (has_windows s.config)) (list_all (λ i. window_of s n i == window_of s n y) (y ∷ ys)) (list_all_front (λ i. window_of s n i == window_of s n y) (y ∷ ys) x one)

length_take : (k : ℕ) (xs : List ℕ) → k ≤ length xs → length (take k xs) ≡ k
length_take zero xs within = refl
length_take (suc k) [] within = absurd (omega arith)
length_take (suc k) (x ∷ xs) within = (let rest : length (take k xs) ≡ k = length_take k xs (omega arith) in omega (arith, rest))

pub cut_is_longest : (p : List ℕ → Bool) (xs cut : List ℕ) → IsCut p [] xs cut → IsLongestPrefix p xs cut
cut_is_longest p xs cut is =
    let long : length cut ≡ is.count = ap length is.is ∙ length_take is.count xs is.within in
    record {
      within = (let within = is.within in omega (arith, long));
      front = is.is ∙ ap (λ k. take k xs) (sym long);
      met = elim is.met [ inl none ↦ inl (is.is ∙ ap (λ k. take k xs) none) | inr passes ↦ inr passes ];
      longest = λ k above within. is.beyond k (omega (arith, long)) within;
    }

pub batch_longest : (s : Setting) (h : List Entry) (lane : LaneId) (m : ℕ) → BatchIsLongest s h lane m
batch_longest s h lane m = cut_is_longest (fits s h lane.shard m) (group s h lane) (batch s h lane m) (longest_cut (fits s h lane.shard m) (fits_closed s h lane.shard m) [] (group s h lane))
