-- Worked examples of replays, computed.
use Rattle.std.proofs.Common.{◌≡◌, ◌<◌, ℕ, List, [], ◌∷◌, length, refl, sym, ap, ◌∙◌, arith, true, false}
use Rattle.std.specs.Prelude.{◌==◌, slice_index}
use Rattle.std.proofs.lemmas.Bool.{eq-eqb}
use Rattle.esm_model.specs.declared.entry.Entry.{Entry}
use Rattle.esm_model.specs.Worked.{calls_in}
use Rattle.esm_model.proofs.WorkedWords.{worked_on_literals}
use Rattle.esm_replay_model.specs.ReplaySetting.{ReplaySetting}
use Rattle.esm_replay_model.specs.Pieces.{ReplayPiece, next_call}
use Rattle.esm_replay_model.specs.ReplayRun.{pieces_left, owed_replay}
use Rattle.esm_replay_model.specs.ReplayReport.{replay_text}
use Rattle.esm_replay_model.specs.ReplayTests.{is_replay}
use Rattle.esm_replay_model.specs.WorkedReplays.{Replays, eight, replaying, replaying_again, left_call, one_given_up, halving, first_halves, ReplayEight, ShortCallIsNoReplay, FailedIsNotReplayed, SecondCallIsNoReplay, NoCallsAllowed, FailureRanges, ReplayEdges, UnnamedIsNotCalled, UnlistedIsNotNamed, HalvedReplay, LaterHalfIsNoReplay, ReportedReplay}
use Rattle.esm_replay_model.proofs.ReplayTests.{is_replay_sound}

replays : (s : ReplaySetting) (h calls : List Entry) (left : List ReplayPiece) (text : List ℕ) → is_replay s h ≡ true → calls_in h ≡ calls → pieces_left s h ≡ left → replay_text s h ≡ text → Replays s h calls left text
replays s h calls left text run c l t = record { is_run = is_replay_sound s h run; calls_are = c; left_are = l; text_is = t }

pub failure_ranges : FailureRanges
unfolding worked_on_literals
failure_ranges = record { eight_named = refl; no_json = refl; other_stream = refl; backwards = refl }

pub replay_eight : ReplayEight
unfolding worked_on_literals
replay_eight = record { runs = replays _ _ _ _ _ refl refl refl refl; again = replays _ _ _ _ _ refl refl refl refl }

-- two lists of places of other lengths are not one
other_length : (xs ys : List ℕ) → (length xs == length ys) ≡ false → xs ≡ ys → ⊥
other_length xs ys other same = let clash : true ≡ false = sym (eq-eqb (length xs) (length ys) (ap length same)) ∙ other in cc

first_call : (next_call replaying (pieces_left replaying [])).places ≡ eight
unfolding worked_on_literals
first_call = refl

pub short_call : ShortCallIsNoReplay
short_call run = other_length (0 ∷ 1 ∷ 2 ∷ 3 ∷ 4 ∷ 5 ∷ 6 ∷ []) eight refl (run.1.1.exact ∙ first_call)

none_succeeded : (owed_replay replaying (left_call eight [])).places ≡ []
unfolding worked_on_literals
none_succeeded = refl

pub failed : FailedIsNotReplayed
failed run = other_length eight [] refl (run.1.1.exact ∙ none_succeeded)

none_named : (next_call replaying_again (pieces_left replaying_again [])).places ≡ []
unfolding worked_on_literals
none_named = refl

pub second_call : SecondCallIsNoReplay
second_call run = other_length eight [] refl (run.1.1.exact ∙ none_named)

pub no_calls : NoCallsAllowed
unfolding worked_on_literals
no_calls = record { runs = replays _ _ _ _ _ refl refl refl refl; none_begins = λ run. let none : 0 < 0 = run.1.1.calls_left in absurd (omega arith) }

pub replay_edges : ReplayEdges
unfolding worked_on_literals
replay_edges = record { runs = replays _ _ _ _ _ refl refl refl refl }

fifth_call : (next_call one_given_up (pieces_left one_given_up [])).places ≡ 4 ∷ []
unfolding worked_on_literals
fifth_call = refl

pub unnamed : UnnamedIsNotCalled
unnamed run = other_length (3 ∷ 4 ∷ []) (4 ∷ []) refl (run.1.1.exact ∙ fifth_call)

pub unlisted : UnlistedIsNotNamed
unfolding worked_on_literals
unlisted = replays _ _ _ _ _ refl refl refl refl

pub halved : HalvedReplay
unfolding worked_on_literals
halved = record { halves = refl; runs = replays _ _ _ _ _ refl refl refl refl }

first_half : (next_call halving (pieces_left halving first_halves)).places ≡ 0 ∷ 1 ∷ 2 ∷ []
unfolding worked_on_literals
first_half = refl

pub later_half : LaterHalfIsNoReplay
later_half run = let clash : slice_index (3 ∷ 4 ∷ 5 ∷ []) 0 ≡ slice_index (0 ∷ 1 ∷ 2 ∷ []) 0 = ap (λ xs. slice_index xs 0) (run.1.1.exact ∙ first_half) in absurd (omega arith)

pub reported : ReportedReplay
unfolding worked_on_literals
reported = record { runs = replays _ _ _ _ _ refl refl refl refl }
