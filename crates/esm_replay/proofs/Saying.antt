-- Each `Replayed` of a run may be said by a payload of the journal.
use Rattle.std.proofs.Common.{◌≡◌, ℕ, zero, suc, ◌+◌, ◌<◌, ◌≤◌, ◌^◌, true, List, [], ◌∷◌, length, take, drop, refl, sym, ap, ◌∙◌, subst, arith, Some, None}
use Rattle.std.specs.Prelude.{map, slice_get, IfSome}
use Rattle.std.specs.List.{list_all, cons_option}
use Rattle.std.proofs.lemmas.Bool.{and_from}
use Rattle.esm_model.specs.declared.limits.TheConstants.{MAX_SHARD}
use Rattle.esm_model.specs.declared.moment.TheConstants.{MAX_MOMENT}
use Rattle.esm_model.specs.Records.{Record}
use Rattle.esm_model.specs.declared.lane.LaneId.{LaneId}
use Rattle.esm_model.specs.declared.verdict.Rest.{Rest}
use Rattle.esm_model.specs.declared.verdict.Rest.TheVariants.{Nothing, Again, Counted, Split, Exhausted}
use Rattle.esm_model.specs.declared.entry.Reply.{Reply}
use Rattle.esm_model.specs.declared.entry.Entry.{Entry}
use Rattle.esm_model.specs.declared.entry.Entry.TheVariants.{Came, Began, Ended, Gave, Tried, Closed, Replayed, Shut}
use Rattle.esm_model.specs.Sequence.{is_sequence}
use Rattle.esm_model.specs.Setting.{Setting, records_of, record_at, records_at, sequences_at}
use Rattle.esm_model.specs.Fates.{below}
use Rattle.esm_model.proofs.Lists.{In, In-here, In-there, In-append_left, In-below, In-filter, In-take, In-drop, In-none}
use Rattle.esm_journal_record.specs.Payload.{IsSaid}
use Rattle.esm_journal_record.specs.EntryPayload.{entry_said, AllMayBeSaid}
use Rattle.esm_record_bounds.specs.Bounds.{AreWithinBounds}
use Rattle.esm_record_bounds.proofs.Rising.{IsRisingFrom, rising-front, rising-take, rising-drop, rising-passing, rising_few, rises_is, all_places}
use Rattle.esm_replay_model.specs.ReplaySetting.{ReplaySetting, is_named, named_places}
use Rattle.esm_replay_model.specs.Pieces.{ReplayPiece, piece, ahead, rising_shards, named_pieces, replay_fits, next_call, replay_verdict, split_ahead, without_call}
use Rattle.esm_replay_model.specs.ReplayRun.{call_out, owed_replay, pieces_left, MayBeginReplay, MayReplay, IsReplay}
use Rattle.esm_replay_model.proofs.Counting.{longest_front}
use Rattle.esm_replay.specs.Saying.{HaveFewRecords}

-- places of a shard that rise, and stand in its list
record Fits (s : ReplaySetting) (n : ℕ) (places : List ℕ) : Type 0 where
  rising : IsRisingFrom 0 places
  within : (i : ℕ) → In places i → i < length (records_of s.base n)

abbrev FitsPiece : ReplaySetting → ReplayPiece → Type 0
FitsPiece s p = Fits s p.shard p.places

abbrev FitAll : ReplaySetting → List ReplayPiece → Type 0
FitAll s [] = Unit {0}
FitAll s (p ∷ ps) = FitsPiece s p × FitAll s ps

fits_nothing : (s : ReplaySetting) (n : ℕ) → Fits s n []
fits_nothing s n = record { rising = tt; within = λ i member. absurd (In-none i member) }

fits-take : (s : ReplaySetting) (n k : ℕ) (places : List ℕ) → Fits s n places → Fits s n (take k places)
fits-take s n k places fits = record { rising = rising-take k 0 places fits.rising; within = λ i member. fits.within i (In-take k places i member) }

fits-drop : (s : ReplaySetting) (n k : ℕ) (places : List ℕ) → Fits s n places → Fits s n (drop k places)
fits-drop s n k places fits = record { rising = rising-drop k 0 places fits.rising; within = λ i member. fits.within i (In-drop k places i member) }

fits_ahead : (s : ReplaySetting) (n : ℕ) (places : List ℕ) (ps : List ReplayPiece) → Fits s n places → FitAll s ps → FitAll s (ahead n places ps)
fits_ahead s n [] ps fits all = all
fits_ahead s n (x ∷ places) ps fits all = (fits, all)

-- the first list

fits_named : (s : ReplaySetting) (n : ℕ) → Fits s n (named_places s n)
fits_named s n = record {
  rising = rising-passing (is_named s n) (length (records_of s.base n));
  within = λ i member. In-below (length (records_of s.base n)) i (In-filter (is_named s n) (below (length (records_of s.base n))) i member).0;
}

fit_first : (s : ReplaySetting) (ns : List ℕ) → FitAll s (named_pieces s ns)
fit_first s [] = tt
fit_first s (n ∷ ns) = fits_ahead s n (named_places s n) (named_pieces s ns) (fits_named s n) (fit_first s ns)

-- calls

fits_next : (s : ReplaySetting) (ps : List ReplayPiece) → FitAll s ps → FitsPiece s (next_call s ps)
fits_next s [] all = fits_nothing s 0
fits_next s (p ∷ ps) all =
    let found = longest_front (λ places. replay_fits s (piece p.shard places)) [] p.places in
    let own : Fits s p.shard p.places = all.0 in
    record {
      rising = rising-front (next_call s (p ∷ ps)).places p.places (found.0, found.1) own.rising;
      within = λ i member. own.within i (subst (λ (xs : List ℕ). In xs i) (sym found.1) (In-append_left (next_call s (p ∷ ps)).places found.0 i member));
    }

fits_split : (s : ReplaySetting) (r : Rest) (n : ℕ) (remaining : List ℕ) (ps : List ReplayPiece) → Fits s n remaining → FitAll s ps → FitAll s (split_ahead r n remaining ps)
fits_split s Nothing n remaining ps fits all = all
fits_split s Again n remaining ps fits all = all
fits_split s Counted n remaining ps fits all = all
fits_split s Exhausted n remaining ps fits all = all
fits_split s (Split k) n remaining ps fits all =
    fits_ahead s n (take k remaining) (ahead n (drop k remaining) ps) (fits-take s n k remaining fits) (fits_ahead s n (drop k remaining) ps (fits-drop s n k remaining fits) all)

fits_without : (s : ReplaySetting) (call : ReplayPiece) (ps : List ReplayPiece) → FitAll s ps → FitAll s (without_call call ps)
fits_without s call [] all = tt
fits_without s call (p ∷ ps) all = fits_ahead s p.shard (drop (length call.places) p.places) ps (fits-drop s p.shard (length call.places) p.places all.0) all.1

-- of a run: the pieces that are still to be called, the call that is out, and what is owed
record FitRun (s : ReplaySetting) (h : List Entry) : Type 0 where
  left : FitAll s (pieces_left s h)
  call : FitsPiece s (call_out h)
  owed : FitsPiece s (owed_replay s h)

ended_fits : (s : ReplaySetting) (h : List Entry) (lane : LaneId) (reply : Reply) (m : ℕ) → FitRun s h → FitRun s (Ended lane reply m ∷ h)
ended_fits s h lane reply m run = record {
  left = fits_split s (replay_verdict s (call_out h) reply).rest (call_out h).shard (drop (replay_verdict s (call_out h) reply).succeeded (call_out h).places) (without_call (call_out h) (pieces_left s h))
      (fits-drop s (call_out h).shard (replay_verdict s (call_out h) reply).succeeded (call_out h).places run.call) (fits_without s (call_out h) (pieces_left s h) run.left);
  call = fits_nothing s 0;
  owed = fits-take s (call_out h).shard (replay_verdict s (call_out h) reply).succeeded (call_out h).places run.call;
}

began_fits : (s : ReplaySetting) (h : List Entry) (lane : LaneId) (places : List ℕ) (m : ℕ) → MayBeginReplay s h lane places → FitRun s h → FitRun s (Began lane places None m ∷ h)
began_fits s h lane places m may run =
    let shard : (next_call s (pieces_left s h)).shard ≡ lane.shard = sym (ap (λ (l : LaneId). l.shard) may.lane_is) in
    record {
      left = run.left;
      call = subst (λ (n : ℕ). Fits s n places) shard (subst (λ (xs : List ℕ). Fits s (next_call s (pieces_left s h)).shard xs) (sym may.exact) (fits_next s (pieces_left s h) run.left));
      owed = fits_nothing s 0;
    }

fit_run : (s : ReplaySetting) (h : List Entry) → IsReplay s h → FitRun s h
fit_run s [] run = record { left = fit_first s (rising_shards s.base.streams); call = fits_nothing s 0; owed = fits_nothing s 0 }
fit_run s (Began lane places None m ∷ h) run = began_fits s h lane places m run.1.1 (fit_run s h run.0)
fit_run s (Began lane places (Some window) m ∷ h) run = absurd run.1.1
fit_run s (Ended lane reply m ∷ h) run = ended_fits s h lane reply m (fit_run s h run.0)
fit_run s (Replayed shard places m ∷ h) run = (let before = fit_run s h run.0 in record { left = before.left; call = fits_nothing s 0; owed = fits_nothing s 0 })
fit_run s (Came shard first count m ∷ h) run = absurd run.1.1
fit_run s (Gave by shard places f line state m ∷ h) run = absurd run.1.1
fit_run s (Tried lane places closing tries m ∷ h) run = absurd run.1.1
fit_run s (Closed lane window m ∷ h) run = absurd run.1.1
fit_run s (Shut m ∷ h) run = absurd run.1.1

-- what is said

record FoundAt (s : Setting) (n i : ℕ) : Type 0 where
  own : Record
  at : record_at s n i ≡ Some own

found_at : (s : Setting) (n i : ℕ) → i < length (records_of s n) → FoundAt s n i
found_at s n i l = (let r = there (records_of s n) i l in record { own = r.0; at = r.1 })
  where
    there : (rs : List Record) (i : ℕ) → i < length rs → (r : Record) × (slice_get rs i ≡ Some r)
    there [] i l = absurd (omega arith)
    there (r ∷ rs) zero l = (r, refl)
    there (r ∷ rs) (suc i) l = there rs i (omega arith)

one_more : (s : Setting) (n i : ℕ) (places : List ℕ) (r : Record) → record_at s n i ≡ Some r → sequences_at s n (i ∷ places) ≡ r.seq ∷ sequences_at s n places
one_more s n i places r at = ap (λ o. map (λ (x : Record). x.seq) (cons_option o (records_at s n places))) at

as_many : (s : Setting) (n : ℕ) (places : List ℕ) → ((i : ℕ) → In places i → i < length (records_of s n)) → length (sequences_at s n places) ≡ length places
as_many s n [] within = refl
as_many s n (i ∷ places) within =
    let there = found_at s n i (within i (In-here i places i refl)) in
    ap (λ (xs : List (List ℕ)). length xs) (one_more s n i places there.own there.at) ∙ ap suc (as_many s n places (λ j member. within j (In-there i places j member)))

spelled : (s : Setting) → AreWithinBounds s → (n : ℕ) (places : List ℕ) → ((i : ℕ) → In places i → i < length (records_of s n)) → list_all is_sequence (sequences_at s n places) ≡ true
spelled s bounds n [] within = refl
spelled s bounds n (i ∷ places) within =
    let there = found_at s n i (within i (In-here i places i refl)) in
    ap (list_all is_sequence) (one_more s n i places there.own there.at)
    ∙ and_from (is_sequence there.own.seq) (list_all is_sequence (sequences_at s n places)) (bounds.valid n i there.own there.at).seq (spelled s bounds n places (λ j member. within j (In-there i places j member)))

said : (s : ReplaySetting) (n : ℕ) (places : List ℕ) (m : ℕ) → AreWithinBounds s.base → HaveFewRecords s.base → 1 ≤ length places → Fits s n places → m ≤ MAX_MOMENT → IfSome (entry_said s.base (Replayed n places m)) IsSaid
said s n [] m bounds few some fits in_time = absurd (omega arith)
said s n (x ∷ places) m bounds few some fits in_time =
    let size : length (records_of s.base n) < 2 ^ 32 = few n in
    let low : 0 + length (x ∷ places) ≤ length (records_of s.base n) = rising_few 0 (x ∷ places) (length (records_of s.base n)) (omega arith) fits.rising fits.within in
    let there = found_at s.base n x (fits.within x (In-here x places x refl)) in (
      subst (λ (k : ℕ). k ≤ MAX_SHARD) (bounds.own_shard n x there.own there.at) (bounds.valid n x there.own there.at).shard,
      in_time,
      record {
        some = omega arith;
        few = omega arith;
        small = all_places (length (records_of s.base n)) (x ∷ places) (omega arith) fits.within;
        rising = rises_is 0 (x ∷ places) fits.rising;
        same = as_many s.base n (x ∷ places) fits.within;
        spelled = spelled s.base bounds n (x ∷ places) fits.within;
      },
    )

pub run_said : (s : ReplaySetting) (h : List Entry) → AreWithinBounds s.base → HaveFewRecords s.base → IsReplay s h → AllMayBeSaid s.base h
run_said s [] bounds few run = tt
run_said s (Began lane places None m ∷ h) bounds few run = (run_said s h bounds few run.0, tt)
run_said s (Began lane places (Some window) m ∷ h) bounds few run = absurd run.1.1
run_said s (Ended lane reply m ∷ h) bounds few run = (run_said s h bounds few run.0, tt)
run_said s (Replayed shard places m ∷ h) bounds few run =
    let may : MayReplay s h shard places m = run.1.1 in
    let owed : FitsPiece s (owed_replay s h) = (fit_run s h run.0).owed in
    let fits : Fits s shard places = subst (λ (n : ℕ). Fits s n places) (sym may.shard_is) (subst (λ (xs : List ℕ). Fits s (owed_replay s h).shard xs) (sym may.exact) owed) in
    (run_said s h bounds few run.0, said s shard places m bounds few may.some fits run.1.0.within)
run_said s (Came shard first count m ∷ h) bounds few run = absurd run.1.1
run_said s (Gave by shard places f line state m ∷ h) bounds few run = absurd run.1.1
run_said s (Tried lane places closing tries m ∷ h) bounds few run = absurd run.1.1
run_said s (Closed lane window m ∷ h) bounds few run = absurd run.1.1
run_said s (Shut m ∷ h) bounds few run = absurd run.1.1
