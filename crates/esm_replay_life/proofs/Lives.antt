-- The laws of a life under replays, each from those of one run. Only this crate's proofs cite this.
use Rattle.std.proofs.Common.{◌≡◌, ℕ, ◌≤◌, Bool, true, false, not, ◌&&◌, ◌||◌, List, [], ◌∷◌, ◌++◌, refl, sym, ap, ◌∙◌, subst, inl, inr, arith, Option, Some, None}
use Rattle.std.specs.Prelude.{◌==◌, filter_map, reverse, IfSome}
use Rattle.std.specs.List.{cons_option}
use Rattle.std.proofs.lemmas.List.{reverse-append}
use Rattle.std.proofs.lemmas.List.Elements.{filter_map-append}
use Rattle.std.proofs.lemmas.Bool.{cases_Bool, and_parts, eqb-true, or_left, or_parts}
use Rattle.esm_model.specs.declared.entry.Entry.{Entry}
use Rattle.esm_model.specs.declared.entry.Entry.TheVariants.{Came, Began, Ended, Gave, Tried, Closed, Replayed, Shut}
use Rattle.esm_model.specs.Entries.{holds}
use Rattle.esm_model.specs.Setting.{Setting, sequences_at}
use Rattle.esm_model.specs.Step.{Legal}
use Rattle.esm_journal_record.specs.declared.said.Said.{Said}
use Rattle.esm_journal_record.specs.declared.said.Said.TheVariants as said
use Rattle.esm_journal_record.specs.Parsing.{said_of}
use Rattle.esm_journal_record.specs.EntryPayload.{entry_said, history_payloads, AllMayBeSaid}
use Rattle.esm_journal_state.specs.Meaning.{any_named, are_good, differs, fate_said, has_failed, history, is_good, is_good_said, is_no_replay, known, known_text, replayed_said, state_said, tries_said, window_tries_said}
use Rattle.esm_journal_state.proofs.Histories.{holds_pair, not_any}
use Rattle.esm_replay_model.specs.ReplaySetting.{ReplaySetting, is_given_up, is_in_lines, is_found_replayed, is_named}
use Rattle.esm_replay_model.specs.ReplayReport.{is_replayed}
use Rattle.esm_replay_model.specs.ReplayRun.{IsReplay}
use Rattle.esm_replay_model.specs.ReplayLaws.{SaysAfter}
use Rattle.esm_replay_model.proofs.Runs.{replayed_once, calls_named}
use Rattle.esm_replay_model.proofs.Sayings.{SaysOf, says_of, history_says, says_after}
use Rattle.esm_replay_life.specs.ReplayLife.{ReplayRun, Stage, Replay, Added, Rewritten, content, saids, IsReplayRunOver, NoneReplays, IsLife, AreReplays, replays_naming, EachReplayedOnce, is_recorded, ReplaysStay, NoneIsCalledAgain, EachIsAnswered, FatesAndTriesStay}
use Rattle.esm_replay_life.proofs.Answered.{each_answered}
use Rattle.esm_replay_life.proofs.Fronts.{Recorded, recorded_of}
use Rattle.esm_replay_life.proofs.GoodReplays.{stays_good}
use Rattle.esm_replay_life.proofs.SameLengths.{HasSameLengths, said_same}

-- one replay

not_true : (b : Bool) → not b ≡ true → b ≡ false
not_true true is = absurd (cc)
not_true false is = refl

not_found : (s : ReplaySetting) (n i : ℕ) → is_named s n i ≡ true → is_found_replayed s n i ≡ false
not_found s n i named =
    let given = and_parts (is_given_up s n i) (is_in_lines s n i && not (is_found_replayed s n i)) named in
    not_true (is_found_replayed s n i) (and_parts (is_in_lines s n i) (not (is_found_replayed s n i)) given.1).1

-- windows, by what a run says over what was said
record WindowsOf (s : ReplaySetting) (h : List Entry) (old : List Said) (n w : ℕ) : Type 0 where
  states : state_said (filter_map (entry_said s.base) h ++ old) n w ≡ state_said old n w
  tries : window_tries_said (filter_map (entry_said s.base) h ++ old) n w ≡ window_tries_said old n w

windows_of : (s : ReplaySetting) (h : List Entry) (old : List Said) (n w : ℕ) → IsReplay s h → WindowsOf s h old n w
windows_of s [] old n w run = record { states = refl; tries = refl }
windows_of s (Began lane places None m ∷ h) old n w run =
    let before : WindowsOf s h old n w = windows_of s h old n w run.0 in
    record { states = before.states; tries = before.tries }
windows_of s (Began lane places (Some window) m ∷ h) old n w run = absurd run.1.1
windows_of s (Ended lane reply m ∷ h) old n w run =
    let before : WindowsOf s h old n w = windows_of s h old n w run.0 in
    record { states = before.states; tries = before.tries }
windows_of s (Replayed shard places m ∷ h) old n w run =
    let before : WindowsOf s h old n w = windows_of s h old n w run.0 in
    record { states = before.states; tries = before.tries }
windows_of s (Came shard first count m ∷ h) old n w run = absurd run.1.1
windows_of s (Gave by shard places fate line state m ∷ h) old n w run = absurd run.1.1
windows_of s (Tried lane places closing tries m ∷ h) old n w run = absurd run.1.1
windows_of s (Closed lane window m ∷ h) old n w run = absurd run.1.1
windows_of s (Shut m ∷ h) old n w run = absurd run.1.1

module _ (r : ReplayRun) (old : List (List ℕ)) (is : IsReplayRunOver r old) where
  kept : Recorded r
  kept = recorded_of r old is

  left_is : old ++ r.left ≡ old ++ history_payloads r.setting.base kept.recorded
  left_is = ap (λ (ps : List (List ℕ)). old ++ ps) kept.left

  says : SaysAfter r.setting kept.recorded old
  says = says_after r.setting kept.recorded old kept.run kept.may

  -- the replays that it found are those of the content
  found : (n i : ℕ) → is_found_replayed r.setting n i ≡ replayed_said (history (reverse old)) n i
  found n i = ap (λ (s : ReplaySetting). is_found_replayed s n i) is.is_setting.is ∙ is.is_setting.tells.replays n i

  fates_after : (n i : ℕ) → fate_said (history (reverse (old ++ r.left))) n i ≡ fate_said (history (reverse old)) n i
  fates_after n i = ap (λ (ps : List (List ℕ)). fate_said (history (reverse ps)) n i) left_is ∙ says.fates n i

  tries_after : (n i : ℕ) → tries_said (history (reverse (old ++ r.left))) n i ≡ tries_said (history (reverse old)) n i
  tries_after n i = ap (λ (ps : List (List ℕ)). tries_said (history (reverse ps)) n i) left_is ∙ says.tries n i

  states_after : (n w : ℕ) → state_said (history (reverse (old ++ r.left))) n w ≡ state_said (history (reverse old)) n w
  states_after n w =
      ap (λ (ps : List (List ℕ)). state_said (history (reverse ps)) n w) left_is
      ∙ (ap (λ (g : List Said). state_said g n w) (history_says r.setting.base kept.recorded old kept.may)
      ∙ (windows_of r.setting kept.recorded (history (reverse old)) n w kept.run).states)

  window_tries_after : (n w : ℕ) → window_tries_said (history (reverse (old ++ r.left))) n w ≡ window_tries_said (history (reverse old)) n w
  window_tries_after n w =
      ap (λ (ps : List (List ℕ)). window_tries_said (history (reverse ps)) n w) left_is
      ∙ (ap (λ (g : List Said). window_tries_said g n w) (history_says r.setting.base kept.recorded old kept.may)
      ∙ (windows_of r.setting kept.recorded (history (reverse old)) n w kept.run).tries)

  replays_after : (n i : ℕ) → replayed_said (history (reverse (old ++ r.left))) n i ≡ (replayed_said (history (reverse old)) n i || is_replayed kept.recorded n i)
  replays_after n i = ap (λ (ps : List (List ℕ)). replayed_said (history (reverse ps)) n i) left_is ∙ says.replays n i

-- what another run added

added_said : (payloads old : List (List ℕ)) → history (reverse (old ++ payloads)) ≡ history (reverse payloads) ++ history (reverse old)
added_said payloads old = ap history (reverse-append old payloads) ∙ filter_map-append said_of (reverse payloads) (reverse old)

replays_none : (more g : List Said) (n i : ℕ) → NoneReplays more → replayed_said (more ++ g) n i ≡ replayed_said g n i
replays_none [] g n i none = refl
replays_none (said.Replayed shard m places texts ∷ more) g n i none = absurd none.1
replays_none (said.Fates shard f m state places texts ∷ more) g n i none = replays_none more g n i none.0
replays_none (said.Closed shard window m ∷ more) g n i none = replays_none more g n i none.0
replays_none (said.Deleted f m places texts ∷ more) g n i none = replays_none more g n i none.0
replays_none (said.State shard m state ∷ more) g n i none = replays_none more g n i none.0
replays_none (said.Tried shard m tries places texts ∷ more) g n i none = replays_none more g n i none.0
replays_none (said.WindowTried shard window m tries ∷ more) g n i none = replays_none more g n i none.0

names_none : (more g : List Said) (n i : ℕ) → NoneReplays more → replays_naming (more ++ g) n i ≡ replays_naming g n i
names_none [] g n i none = refl
names_none (said.Replayed shard m places texts ∷ more) g n i none = absurd none.1
names_none (said.Fates shard f m state places texts ∷ more) g n i none = names_none more g n i none.0
names_none (said.Closed shard window m ∷ more) g n i none = names_none more g n i none.0
names_none (said.Deleted f m places texts ∷ more) g n i none = names_none more g n i none.0
names_none (said.State shard m state ∷ more) g n i none = names_none more g n i none.0
names_none (said.Tried shard m tries places texts ∷ more) g n i none = names_none more g n i none.0
names_none (said.WindowTried shard window m tries ∷ more) g n i none = names_none more g n i none.0

-- replays stay

pub stay : (later before : List Stage) → IsLife (later ++ before) → ReplaysStay later before
stay [] before life n i is = is
stay (Replay r ∷ later) before life n i is =
    let old = content (later ++ before) in
    replays_after r (content (later ++ before)) life.1 n i
    ∙ or_left (is_recorded (later ++ before) n i) (is_replayed (kept r (content (later ++ before)) life.1).recorded n i) (stay later before life.0 n i is)
stay (Added payloads ∷ later) before life n i is =
    ap (λ (g : List Said). replayed_said g n i) (added_said payloads (content (later ++ before)))
    ∙ (replays_none (history (reverse payloads)) (saids (later ++ before)) n i life.1.no_replay ∙ stay later before life.0 n i is)
stay (Rewritten list ∷ later) before life n i is = life.1.same.replays n i ∙ stay later before life.0 n i is

-- none is called again

pub not_called : (r : ReplayRun) (between before : List Stage) → IsLife (Replay r ∷ between ++ before) → NoneIsCalledAgain r before
not_called r between before life later earlier lane places closing m split i member =
    let free = calls_named r.setting (r.hand ++ r.happened) life.1.hand_is_run later earlier lane places closing m split i member in
    let now : is_recorded (between ++ before) lane.shard i ≡ false = sym (found r (content (between ++ before)) life.1 lane.shard i) ∙ not_found r.setting lane.shard i free.0 in
    (earlier_too (is_recorded before lane.shard i) refl now, free.1)
  where
    earlier_too : (b : Bool) → is_recorded before lane.shard i ≡ b → is_recorded (between ++ before) lane.shard i ≡ false → is_recorded before lane.shard i ≡ false
    earlier_too false was now = was
    earlier_too true was now = absurd (let clash : true ≡ false = sym (stay between before life.0 lane.shard i was) ∙ now in cc)

-- each once

names_nowhere : (g : List Said) (n i : ℕ) → replayed_said g n i ≡ false → replays_naming g n i ≡ 0
names_nowhere [] n i none = refl
names_nowhere (said.Replayed shard m places texts ∷ g) n i none =
    let parts = or_parts ((shard == n) && holds places i) (replayed_said g n i) none in
    let rest : replays_naming g n i ≡ 0 = names_nowhere g n i parts.1 in
    rw (parts.0) (omega arith)
names_nowhere (said.Fates shard f m state places texts ∷ g) n i none = names_nowhere g n i none
names_nowhere (said.Closed shard window m ∷ g) n i none = names_nowhere g n i none
names_nowhere (said.Deleted f m places texts ∷ g) n i none = names_nowhere g n i none
names_nowhere (said.State shard m state ∷ g) n i none = names_nowhere g n i none
names_nowhere (said.Tried shard m tries places texts ∷ g) n i none = names_nowhere g n i none
names_nowhere (said.WindowTried shard window m tries ∷ g) n i none = names_nowhere g n i none

-- one more payload, which names the record only where none did
one_more : (g : List Said) (shard m : ℕ) (places : List ℕ) (texts : List (List ℕ)) (n i : ℕ) → (((shard == n) && holds places i) ≡ true → replayed_said g n i ≡ false) → replays_naming g n i ≤ 1
    → replays_naming (said.Replayed shard m places texts ∷ g) n i ≤ 1
one_more g shard m places texts n i fresh once =
    elim (cases_Bool ((shard == n) && holds places i)) [
      | inl own ↦ (let none : replays_naming g n i ≡ 0 = names_nowhere g n i (fresh own) in rw own (omega arith))
      | inr other ↦ rw other (omega arith)
    ]

-- a run over what was said
once_after : (s : ReplaySetting) (g : List Said) (h : List Entry) (n i : ℕ) → ((k j : ℕ) → is_found_replayed s k j ≡ replayed_said g k j) → replays_naming g n i ≤ 1 → IsReplay s h → replays_naming (filter_map (entry_said s.base) h ++ g) n i ≤ 1
once_after s g [] n i found once run = once
once_after s g (Replayed shard places m ∷ h) n i found once run =
    one_more (filter_map (entry_said s.base) h ++ g) shard m places (sequences_at s.base shard places) n i (fresh n i) (once_after s g h n i found once run.0)
  where
    fresh : (n i : ℕ) → ((shard == n) && holds places i) ≡ true → replayed_said (filter_map (entry_said s.base) h ++ g) n i ≡ false
    fresh n i own =
        let parts = and_parts (shard == n) (holds places i) own in
        let free = replayed_once s (Replayed shard places m ∷ h) run [] h shard places m refl i parts.1 in
        let before : replayed_said g shard i ≡ false = sym (found shard i) ∙ not_found s shard i free.0 in
        let says : SaysOf s h g shard i = says_of s h g shard i run.0 in
        let here : replayed_said (filter_map (entry_said s.base) h ++ g) shard i ≡ false = says.replays ∙ (rw (before, free.1) refl) in
        subst (λ (k : ℕ). replayed_said (filter_map (entry_said s.base) h ++ g) k i ≡ false) (eqb-true shard n parts.0) here
once_after s g (Began lane places closing m ∷ h) n i found once run = once_after s g h n i found once run.0
once_after s g (Ended lane reply m ∷ h) n i found once run = once_after s g h n i found once run.0
once_after s g (Came shard first count m ∷ h) n i found once run = absurd run.1.1
once_after s g (Gave by shard places f line state m ∷ h) n i found once run = absurd run.1.1
once_after s g (Tried lane places closing tries m ∷ h) n i found once run = absurd run.1.1
once_after s g (Closed lane window m ∷ h) n i found once run = absurd run.1.1
once_after s g (Shut m ∷ h) n i found once run = absurd run.1.1

-- a list whose payloads are good

good_more : (g : List Said) (o : Option Said) (n i : ℕ) → is_good_said g o ≡ true → IfSome o HasSameLengths → replays_naming g n i ≤ 1 → replays_naming (cons_option o g) n i ≤ 1
good_more g None n i good same once = once
good_more g (Some (said.Replayed shard m places texts)) n i good same once =
    one_more g shard m places texts n i fresh once
  where
    middle : (a b c : Bool) → (not a || b || c) ≡ false → b ≡ false
    middle a false c is = refl
    middle true true c is = absurd (cc)
    middle false true c is = absurd (cc)

    fresh : ((shard == n) && holds places i) ≡ true → replayed_said g n i ≡ false
    fresh own =
        let parts = and_parts (shard == n) (holds places i) own in
        let named = holds_pair places texts i same parts.1 in
        let passes = not_any (is_no_replay (known g) shard) places texts i named.0 (not_true (any_named (is_no_replay (known g) shard) places texts) good) named.1 in
        let free : replayed_said g shard i ≡ false = middle (has_failed ((known g).fates shard i)) (replayed_said g shard i) (differs (known_text (known g) shard i) named.0) passes in
        subst (λ (k : ℕ). replayed_said g k i ≡ false) (eqb-true shard n parts.0) free
good_more g (Some (said.Fates shard f m state places texts)) n i good same once = once
good_more g (Some (said.Closed shard window m)) n i good same once = once
good_more g (Some (said.Deleted f m places texts)) n i good same once = once
good_more g (Some (said.State shard m state)) n i good same once = once
good_more g (Some (said.Tried shard m tries places texts)) n i good same once = once
good_more g (Some (said.WindowTried shard window m tries)) n i good same once = once

good_once : (ps : List (List ℕ)) (n i : ℕ) → are_good ps ≡ true → replays_naming (history ps) n i ≤ 1
good_once [] n i good = omega arith
good_once (p ∷ ps) n i good =
    let parts = and_parts (are_good ps) (is_good (history ps) p) good in
    good_more (history ps) (said_of p) n i parts.1 (said_same p (said_of p) refl) (good_once ps n i parts.0)

pub once : (life : List Stage) → IsLife life → EachReplayedOnce life
once [] life n i = omega arith
once (Replay r ∷ stages) life n i =
    let old = content stages in
    let k = kept r (content stages) life.1 in
    let said_now : history (reverse (content stages ++ r.left)) ≡ filter_map (entry_said r.setting.base) k.recorded ++ saids stages =
    ap (λ (ps : List (List ℕ)). history (reverse ps)) (left_is r (content stages) life.1) ∙ history_says r.setting.base k.recorded (content stages) k.may in
    subst (λ (g : List Said). replays_naming g n i ≤ 1) (sym said_now) (once_after r.setting (saids stages) k.recorded n i (found r (content stages) life.1) (once stages life.0 n i) k.run)
once (Added payloads ∷ stages) life n i =
    subst (λ (g : List Said). replays_naming g n i ≤ 1) (sym (added_said payloads (content stages)))
    (subst (λ (k : ℕ). k ≤ 1) (sym (names_none (history (reverse payloads)) (saids stages) n i life.1.no_replay)) (once stages life.0 n i))
once (Rewritten list ∷ stages) life n i = good_once (reverse list) n i life.1.good

-- answers

pub answered : (r : ReplayRun) (before : List Stage) → IsLife (Replay r ∷ before) → EachIsAnswered r
answered r before life = each_answered r (content before) life.1

-- fates and tries

pub fates_stay : (later before : List Stage) → IsLife (later ++ before) → AreReplays later → FatesAndTriesStay later before
fates_stay [] before life all = record { fates = λ n i. refl; tries = λ n i. refl; states = λ n w. refl; window_tries = λ n w. refl }
fates_stay (Replay r ∷ later) before life all =
    let was = fates_stay later before life.0 all in
    record {
      fates = λ n i. fates_after r (content (later ++ before)) life.1 n i ∙ was.fates n i;
      tries = λ n i. tries_after r (content (later ++ before)) life.1 n i ∙ was.tries n i;
      states = λ n w. states_after r (content (later ++ before)) life.1 n w ∙ was.states n w;
      window_tries = λ n w. window_tries_after r (content (later ++ before)) life.1 n w ∙ was.window_tries n w;
    }
fates_stay (Added payloads ∷ later) before life all = absurd all
fates_stay (Rewritten list ∷ later) before life all =
    let was = fates_stay later before life.0 all in
    record {
      fates = λ n i. life.1.same.fates n i ∙ was.fates n i;
      tries = λ n i. life.1.same.tries n i ∙ was.tries n i;
      states = λ n w. life.1.same.states n w ∙ was.states n w;
      window_tries = λ n w. life.1.same.window_tries n w ∙ was.window_tries n w;
    }

-- payloads

pub good : (life : List Stage) → IsLife life → are_good (reverse (content life)) ≡ true
good [] life = refl
good (Replay r ∷ stages) life = stays_good r (content stages) (good stages life.0) life.1
good (Added payloads ∷ stages) life = life.1.good
good (Rewritten list ∷ stages) life = life.1.good

-- a stream's run

legal_says : (s : Setting) (h : List Entry) → Legal s h → NoneReplays (filter_map (entry_said s) h)
legal_says s [] legal = tt
legal_says s (Gave by shard places f line state m ∷ h) legal = (legal_says s h legal.0, tt)
legal_says s (Tried lane places None tries m ∷ h) legal = (legal_says s h legal.0, tt)
legal_says s (Tried lane places (Some window) tries m ∷ h) legal = (legal_says s h legal.0, tt)
legal_says s (Closed lane window m ∷ h) legal = (legal_says s h legal.0, tt)
legal_says s (Replayed shard places m ∷ h) legal = absurd legal.1.1
legal_says s (Came shard first count m ∷ h) legal = legal_says s h legal.0
legal_says s (Began lane places closing m ∷ h) legal = legal_says s h legal.0
legal_says s (Ended lane reply m ∷ h) legal = legal_says s h legal.0
legal_says s (Shut m ∷ h) legal = legal_says s h legal.0

none_after : (g more : List Said) → NoneReplays g → NoneReplays more → NoneReplays (g ++ more)
none_after [] more none rest = rest
none_after (x ∷ g) more none rest = (none_after g more none.0 rest, none.1)

pub runs_none : (s : Setting) (h : List Entry) → Legal s h → AllMayBeSaid s h → NoneReplays (history (reverse (history_payloads s h)))
runs_none s h legal may =
    subst NoneReplays (sym (history_says s h [] may)) (none_after (filter_map (entry_said s) h) [] (legal_says s h legal) tt)
