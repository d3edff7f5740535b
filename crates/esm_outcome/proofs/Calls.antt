-- The call that a lane runs: its places and the window that it closes, by the row of its beginning.
use Rattle.std.proofs.Common.{◌≡◌, ℕ, zero, suc, ◌<◌, ◌≤◌, Bool, true, false, not, cond, ◌&&◌, List, [], ◌∷◌, ◌++◌, length, drop, refl, sym, ap, ◌∙◌, subst, ◌⊎◌, inl, inr, Option, Some, None, arith, get_or}
use Rattle.std.specs.Prelude.{◌==◌, nat_le, slice_index, take_while}
use Rattle.std.specs.List.{list_all}
use Rattle.std.proofs.lemmas.Bool.{cases_Bool, and_parts, and_from, leb-true, eq-eqb}
use Rattle.std.proofs.lemmas.List.Sums.{take_while-cons}
use Rattle.esm_model.specs.declared.limits.TheConstants.{MAX_BATCH, MAX_EVENT}
use Rattle.esm_model.specs.declared.config.Config.{Config}
use Rattle.esm_model.specs.declared.config.Kind.{Kind}
use Rattle.esm_model.specs.declared.config.Kind.TheVariants.{Stream}
use Rattle.esm_model.specs.declared.lane.LaneId.{LaneId}
use Rattle.esm_model.specs.Lane.{same_lane}
use Rattle.esm_model.specs.declared.entry.Entry.{Entry}
use Rattle.esm_model.specs.declared.entry.Entry.TheVariants.{Came, Began, Ended, Gave, Tried, Closed, Replayed, Shut}
use Rattle.esm_model.specs.Setting.{Setting}
use Rattle.esm_model.specs.Entries.{Call, came_count, is_running, last_call, batch_of}
use Rattle.esm_model.specs.Fates.{open_places}
use Rattle.esm_model.specs.Tries.{same_mark, mark, tries}
use Rattle.esm_model.specs.Batches.{longest, fits, batch, group, group_of, same_piece, is_one_window, is_expired}
use Rattle.esm_model.specs.Calls.{event_of}
use Rattle.esm_model.specs.Step.{Legal, MayBegin}
use Rattle.esm_model.specs.Valid.{IsStreamConfig, is_batch_size}
use Rattle.esm_model.proofs.Lists.{In, In-here, In-there, In-drop}
use Rattle.esm_model.proofs.Steps.{came_grows}
use Rattle.esm_model.proofs.Sound.{same_lane-true}
use Rattle.esm_model.proofs.Paid.{running_front}

-- a call that began: no more places than the batch size; a batch has some, a final call has none
pub record IsBegun (s : Setting) (call : Call) : Type 0 where
  pub few : length call.places ≤ s.config.batch_size
  pub some : call.closing ≡ None → 1 ≤ length call.places
  pub final : (w : ℕ) → call.closing ≡ Some w → call.places ≡ []

-- it is the lane's last one, and its shard came
pub record Runs (s : Setting) (h : List Entry) (lane : LaneId) : Type 0 where
  pub call : Call
  pub last : last_call h lane ≡ Some call
  pub begun : IsBegun s call
  pub came : 1 ≤ came_count h lane.shard

longest_met : (p : List ℕ → Bool) (seen xs : List ℕ) → (longest p seen xs ≡ seen) ⊎ (p (longest p seen xs) ≡ true)
longest_met p seen [] = inl refl
longest_met p seen (x ∷ xs) =
    elim (cases_Bool (p (seen ++ x ∷ []))) [
      | inl passes ↦ rw passes (inr (elim (longest_met p (seen ++ x ∷ []) xs) [
        | inl still ↦ subst (λ zs. p zs ≡ true) (sym still) passes
        | inr met ↦ met
      ]))
      | inr fails ↦ rw fails (inl refl)
    ]

batch_few : (s : Setting) (h : List Entry) (lane : LaneId) (m : ℕ) → 1 ≤ length (batch s h lane m) → length (batch s h lane m) ≤ s.config.batch_size
batch_few s h lane m some =
    let b = batch s h lane m in
    elim (longest_met (fits s h lane.shard m) [] (group s h lane)) [
      | inl none ↦ (let empty : 1 ≤ 0 = subst (λ (xs : List ℕ). 1 ≤ length xs) none some in absurd (omega (arith, empty)))
      | inr met ↦ (
          let size = nat_le (length b) s.config.batch_size in
          let text = nat_le (length (event_of s h lane.shard b None)) MAX_EVENT in
          let young = list_all (λ i. not (is_expired s lane.shard m i)) b in
          let three = and_parts (size && text && is_one_window s lane.shard b) young met in
          let two = and_parts (size && text) (is_one_window s lane.shard b) three.0 in
          leb-true (length b) s.config.batch_size (and_parts size text two.0).0)
    ]

batch_begun : (s : Setting) (h : List Entry) (lane : LaneId) (places : List ℕ) (m k : ℕ) → MayBegin s h lane places m → IsBegun s (record { places = places; closing = None; moment = k })
batch_begun s h lane places m k may = record {
  few = subst (λ (xs : List ℕ). length xs ≤ s.config.batch_size) (sym may.exact) (batch_few s h lane m (subst (λ (xs : List ℕ). 1 ≤ length xs) may.exact may.some));
  some = λ _. may.some;
  final = λ w is. absurd (let clash : ◌≡◌ {A = Option ℕ} None (Some w) = is in cc);
}

final_begun : (s : Setting) (places : List ℕ) (w k : ℕ) → places ≡ [] → IsBegun s (record { places = places; closing = Some w; moment = k })
final_begun s places w k none = record {
  few = subst (λ (xs : List ℕ). length xs ≤ s.config.batch_size) (sym none) (omega arith);
  some = λ is. absurd (let clash : ◌≡◌ {A = Option ℕ} (Some w) None = is in cc);
  final = λ v is. none;
}

goes_on : (s : Setting) (e : Entry) (h : List Entry) (lane : LaneId) → last_call (e ∷ h) lane ≡ last_call h lane → Runs s h lane → Runs s (e ∷ h) lane
goes_on s e h lane same was = record {
  call = was.call;
  last = same ∙ was.last;
  begun = was.begun;
  came = (let grows = came_grows e h lane.shard in let some = was.came in omega (arith, grows, some));
}

-- a lane that runs
pub runs : (s : Setting) (h : List Entry) (lane : LaneId) → Legal s h → is_running h lane ≡ true → Runs s h lane
runs s [] lane legal is = absurd (let clash : false ≡ true = is in cc)
runs s (Began at places None m ∷ h) lane legal is =
    elim (cases_Bool (same_lane at lane)) [
      | inl same ↦ record {
        call = record { places = places; closing = None; moment = m };
        last = rw same refl;
        begun = batch_begun s h at places m m legal.1.1;
        came = subst (λ (l : LaneId). 1 ≤ came_count h l.shard) (same_lane-true at lane same) legal.1.1.call.came;
      }
      | inr other ↦ (let ran : is_running h lane ≡ true = rw other at is in goes_on s (Began at places None m) h lane (rw other refl) (runs s h lane legal.0 ran))
    ]
runs s (Began at places (Some w) m ∷ h) lane legal is =
    elim (cases_Bool (same_lane at lane)) [
      | inl same ↦ record {
        call = record { places = places; closing = Some w; moment = m };
        last = rw same refl;
        begun = final_begun s places w m legal.1.1.no_places;
        came = subst (λ (l : LaneId). 1 ≤ came_count h l.shard) (same_lane-true at lane same) legal.1.1.call.came;
      }
      | inr other ↦ (let ran : is_running h lane ≡ true = rw other at is in goes_on s (Began at places (Some w) m) h lane (rw other refl) (runs s h lane legal.0 ran))
    ]
runs s (Ended at reply m ∷ h) lane legal is =
    elim (cases_Bool (same_lane at lane)) [
      | inl same ↦ absurd (let clash : false ≡ true = rw same at is in cc)
      | inr other ↦ (let ran : is_running h lane ≡ true = rw other at is in goes_on s (Ended at reply m) h lane refl (runs s h lane legal.0 ran))
    ]
runs s (Came n first count m ∷ h) lane legal is = goes_on s (Came n first count m) h lane refl (runs s h lane legal.0 is)
runs s (Gave by n places f line state m ∷ h) lane legal is = goes_on s (Gave by n places f line state m) h lane refl (runs s h lane legal.0 is)
runs s (Tried at places closing t m ∷ h) lane legal is = goes_on s (Tried at places closing t m) h lane refl (runs s h lane legal.0 is)
runs s (Closed at w m ∷ h) lane legal is = goes_on s (Closed at w m) h lane refl (runs s h lane legal.0 is)
runs s (Replayed n places m ∷ h) lane legal is = goes_on s (Replayed n places m) h lane refl (runs s h lane legal.0 is)
runs s (Shut m ∷ h) lane legal is = goes_on s (Shut m) h lane refl (runs s h lane legal.0 is)

-- no batch is longer than the bound
pub within_batch : (c : Config) (n : ℕ) → IsStreamConfig c → n ≤ c.batch_size → n ≤ MAX_BATCH
within_batch c n is few =
    let size : is_batch_size Stream c.batch_size ≡ true = subst (λ (k : Kind). is_batch_size k c.batch_size ≡ true) is.kind is.valid.batch_size in
    let most = leb-true c.batch_size MAX_BATCH (and_parts (nat_le 1 c.batch_size) (nat_le c.batch_size MAX_BATCH) size).1 in
    omega (arith, most, few)

-- first places

pub get_In : (xs : List ℕ) (k : ℕ) → k < length xs → In xs (get_or xs k 0)
get_In [] k within = absurd (omega arith)
get_In (x ∷ xs) zero within = In-here x xs x refl
get_In (x ∷ xs) (suc k) within = In-there x xs (get_or xs k 0) (get_In xs k (omega arith))

pub drop_In : (k i : ℕ) (xs : List ℕ) → i < length (drop k xs) → In xs (get_or (drop k xs) i 0)
drop_In k i xs within = In-drop k xs (get_or (drop k xs) i 0) (get_In (drop k xs) i within)

pub drop_shorter : (k : ℕ) (xs : List ℕ) → length (drop k xs) ≤ length xs
drop_shorter zero xs = omega arith
drop_shorter (suc k) [] = omega arith
drop_shorter (suc k) (x ∷ xs) = (let less = drop_shorter k xs in omega (arith, less))

same_mark-refl : (o : Option (ℕ × ℕ)) → same_mark o o ≡ true
same_mark-refl None = refl
same_mark-refl (Some a) = and_from (a.0 == a.0) (a.1 == a.1) (eq-eqb a.0 a.0 refl) (eq-eqb a.1 a.1 refl)

own_piece : (s : Setting) (h : List Entry) (n i : ℕ) → same_piece s h n i i ≡ true
own_piece s h n i = and_from (same_mark (mark s h n i) (mark s h n i)) (tries s h n i == tries s h n i) (same_mark-refl (mark s h n i)) (eq-eqb (tries s h n i) (tries s h n i) refl)

-- a group begins with the first of its places
group_first : (s : Setting) (h : List Entry) (n x : ℕ) (xs : List ℕ) → slice_index (group_of s h n (x ∷ xs)) 0 ≡ x
group_first s h n x xs =
    ap (λ (ys : List ℕ). slice_index ys 0)
    (take_while-cons (same_piece s h n x) x xs ∙ ap (λ b. cond b (x ∷ take_while (same_piece s h n x) xs) []) (own_piece s h n x))

first_of : (s : Setting) (h : List Entry) (n : ℕ) (opens places rest : List ℕ) → opens ≡ places ++ rest → 1 ≤ length places → slice_index (group_of s h n opens) 0 ≡ slice_index places 0
first_of s h n opens [] rest is some = absurd (omega arith)
first_of s h n opens (x ∷ xs) rest is some = ap (λ (os : List ℕ). slice_index (group_of s h n os) 0) is ∙ group_first s h n x (xs ++ rest)

-- the group of a lane that runs begins with the first record of its call
pub running_first : (s : Setting) (h : List Entry) (lane : LaneId) → Legal s h → is_running h lane ≡ true → 1 ≤ length (batch_of (last_call h lane)) → slice_index (group s h lane) 0 ≡ slice_index (batch_of (last_call h lane)) 0
running_first s h lane legal is some =
    let front = running_front s h lane legal is in
    first_of s h lane.shard (open_places s h lane) (batch_of (last_call h lane)) front.0 front.1 some
