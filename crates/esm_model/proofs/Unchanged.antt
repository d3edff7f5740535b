-- Where an entry changes neither fates nor tries nor marks of a lane, its open records and its group stay; where it
-- changes no state either, its batch stays.
use Rattle.std.proofs.Common.{◌≡◌, ℕ, false, not, ◌&&◌, List, [], ◌∷◌, length, refl, sym, ap, ◌∙◌, None}
use Rattle.std.specs.Prelude.{nat_le, filter, is_none, slice_index}
use Rattle.std.specs.List.{list_all}
use Rattle.std.proofs.lemmas.List.Elements.{filter_agree}
use Rattle.esm_model.specs.declared.limits.TheConstants.{MAX_EVENT}
use Rattle.esm_model.specs.declared.lane.LaneId.{LaneId}
use Rattle.esm_model.specs.declared.entry.Entry.{Entry}
use Rattle.esm_model.specs.Setting.{Setting, records_at, is_in_lane}
use Rattle.esm_model.specs.Entries.{came_count}
use Rattle.esm_model.specs.Fates.{below, lacks_fate, open_places}
use Rattle.esm_model.specs.EventText.{event_text}
use Rattle.esm_model.specs.Tries.{tries, mark}
use Rattle.esm_model.specs.Windows.{has_windows}
use Rattle.esm_model.specs.Calls.{window_call, window_of_call}
use Rattle.esm_model.specs.Batches.{same_piece, group_of, group, is_expired, is_one_window, fits, longest, batch}
use Rattle.esm_model.proofs.Lists.{take_while_agree}
use Rattle.esm_model.proofs.Records.{longest_same, window_call_agree}
use Rattle.esm_model.proofs.OtherLanes.{piece_agree, IsUntouched, group_untouched}
use Rattle.esm_model.proofs.OtherShards.{IsElsewhere, elsewhere_same}

-- the event of a batch, and so what fits in it
fits_agree : (s : Setting) (h : List Entry) (e : Entry) (n m : ℕ) → ((zs : List ℕ) → window_call s (e ∷ h) n zs None ≡ window_call s h n zs None) → (zs : List ℕ) → fits s (e ∷ h) n m zs ≡ fits s h n m zs
fits_agree s h e n m same zs =
    ap (λ window. nat_le (length zs) s.config.batch_size && nat_le (length (event_text s.config (records_at s n zs) window)) MAX_EVENT && is_one_window s n zs && list_all (λ i. not (is_expired s n m i)) zs) (same zs)

pub batch_agree : (s : Setting) (h : List Entry) (e : Entry) (lane : LaneId) (m : ℕ) → group s (e ∷ h) lane ≡ group s h lane → ((zs : List ℕ) → window_call s (e ∷ h) lane.shard zs None ≡ window_call s h lane.shard zs None) → batch s (e ∷ h) lane m ≡ batch s h lane m
batch_agree s h e lane m groups same =
    ap (longest (fits s (e ∷ h) lane.shard m) []) groups
    ∙ longest_same (fits s (e ∷ h) lane.shard m) (fits s h lane.shard m) [] (group s h lane) (λ zs some inside. fits_agree s h e lane.shard m same zs)

-- without windows an event tells of none
no_window : (s : Setting) (h : List Entry) (n : ℕ) (zs : List ℕ) → has_windows s.config ≡ false → window_call s h n zs None ≡ None
no_window s h n zs none = rw none refl

-- an entry of another lane leaves the batch, where windows are not configured
pub batch_untouched : (s : Setting) (h : List Entry) (e : Entry) (lane : LaneId) (m : ℕ) → IsUntouched s h e lane → has_windows s.config ≡ false → batch s (e ∷ h) lane m ≡ batch s h lane m
batch_untouched s h e lane m is none = batch_agree s h e lane m (group_untouched s h e lane is) (λ zs. no_window s (e ∷ h) lane.shard zs none ∙ sym (no_window s h lane.shard zs none))

-- an entry of another shard leaves open records, group and batch

pub open_elsewhere : (s : Setting) (h : List Entry) (e : Entry) (lane : LaneId) → IsElsewhere lane.shard e → open_places s (e ∷ h) lane ≡ open_places s h lane
open_elsewhere s h e lane off =
    let is = elsewhere_same s h e lane off in
    ap (λ k. filter (λ i. is_in_lane s lane i && lacks_fate s (e ∷ h) lane.shard i) (below k)) is.came
    ∙ filter_agree (λ i. is_in_lane s lane i && lacks_fate s (e ∷ h) lane.shard i) (λ i. is_in_lane s lane i && lacks_fate s h lane.shard i) (λ i. ap (λ f. is_in_lane s lane i && is_none f) (is.fates i)) (below (came_count h lane.shard))

pub group_elsewhere : (s : Setting) (h : List Entry) (e : Entry) (lane : LaneId) → IsElsewhere lane.shard e → group s (e ∷ h) lane ≡ group s h lane
group_elsewhere s h e lane off =
    let is = elsewhere_same s h e lane off in
    let x = slice_index (open_places s h lane) 0 in
    ap (group_of s (e ∷ h) lane.shard) (open_elsewhere s h e lane off)
    ∙ take_while_agree (same_piece s (e ∷ h) lane.shard x) (same_piece s h lane.shard x) (open_places s h lane)
    (λ i member. piece_agree (mark s (e ∷ h) lane.shard x) (mark s h lane.shard x) (mark s (e ∷ h) lane.shard i) (mark s h lane.shard i) (tries s (e ∷ h) lane.shard x) (tries s h lane.shard x) (tries s (e ∷ h) lane.shard i) (tries s h lane.shard i) (is.marks x) (is.marks i) (is.tries x) (is.tries i))

pub batch_elsewhere : (s : Setting) (h : List Entry) (e : Entry) (lane : LaneId) (m : ℕ) → IsElsewhere lane.shard e → batch s (e ∷ h) lane m ≡ batch s h lane m
batch_elsewhere s h e lane m off =
    let is = elsewhere_same s h e lane off in
    batch_agree s h e lane m (group_elsewhere s h e lane off) (λ zs. window_call_agree s h (e ∷ h) lane.shard zs None (is.states (window_of_call s lane.shard zs None)))
