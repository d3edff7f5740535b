-- The laws of a life, each from those of one run. Only this crate's proofs cite this.
use Rattle.std.proofs.Common.{◌≡◌, ℕ, ◌+◌, ◌-◌, ◌≤◌, Bool, true, false, ◌&&◌, List, [], ◌∷◌, ◌++◌, length, refl, sym, ap, ◌∙◌, subst, ◌⊎◌, inl, inr, arith, Option, Some, None}
use Rattle.std.specs.Prelude.{◌==◌, IsSome, is_some, option_map, reverse, take_while, if◌then◌else◌}
use Rattle.std.specs.Option.{option_or}
use Rattle.std.specs.List.{list_any}
use Rattle.std.proofs.lemmas.Bool.{and_parts, eqb-true, or_left, or_right}
use Rattle.std.proofs.lemmas.Option.{same_Some}
use Rattle.esm_model.specs.declared.lane.LaneId.{LaneId}
use Rattle.esm_model.specs.declared.entry.Fate.{Fate}
use Rattle.esm_model.specs.declared.entry.WindowState.{WindowState}
use Rattle.esm_model.specs.declared.entry.Entry.{Entry}
use Rattle.esm_model.specs.declared.entry.Entry.TheVariants.{Came, Began, Ended, Gave, Tried, Closed, Replayed, Shut}
use Rattle.esm_model.specs.declared.setup.FoundFate.{FoundFate}
use Rattle.esm_model.specs.Setting.{Setting, found_fate}
use Rattle.esm_model.specs.Entries.{holds, came_count}
use Rattle.esm_model.specs.Fates.{below, given, names_place}
use Rattle.esm_model.proofs.Lists.{take_while_longer, take_while_agree}
use Rattle.esm_model.proofs.Steps.{span, below_more}
use Rattle.esm_model.proofs.Earning.{earned_of_legal}
use Rattle.esm_model.proofs.Histories.{no_repeat_of_legal, order_of_legal}
use Rattle.esm_journal_state.specs.declared.kept.KeptFate.{KeptFate}
use Rattle.esm_journal_state.specs.Meaning.{fate_said, history}
use Rattle.esm_journal_state.proofs.KeptFates.{checkpoint_kept}
use Rattle.esm_life.specs.Life.{Run, Stage, Ran, Replay, Rewritten, content, IsRecorded, IsRunOver, SaysTheSame, IsLife, recorded_fate, FateStays, EachIsEarned, NoneIsCalledAgain, KeysInOrder, CheckpointStays, CheckpointIsRuns}
use Rattle.esm_history.proofs.GoesOn.{fate_found, fates_after}
use Rattle.esm_queue_life.proofs.Lives.{IsFrontOrMore, happened_before}
use Rattle.esm_life.specs.ReplayLaws.{AreReplayLaws}
use Rattle.esm_life.proofs.ReplayLives.{replay_fate}

-- one stage

abbrev found_only : Setting → ℕ → ℕ → Option Fate
found_only s n i = option_map (λ (f : FoundFate). f.fate) (found_fate s n i)

-- after a run a place has the fate that was found, or the one that the run gave
run_fate : (r : Run) (before : List Stage) → IsRunOver r (content before) → (n i : ℕ) → recorded_fate (Ran r ∷ before) n i ≡ option_or (recorded_fate before n i) (given r.recorded n i)
run_fate r before is n i =
    fates_after r.setting r.recorded (content before) is.legal_recorded is.may_be_said is.opened n i
    ∙ ap (λ o. option_or o (given r.recorded n i)) (fate_found r.setting (content before) is.opened n i)

rewritten_fate : (list : List (List ℕ)) (before : List Stage) → SaysTheSame list (content before) → (n i : ℕ) → recorded_fate (Rewritten list ∷ before) n i ≡ recorded_fate before n i
rewritten_fate list before is n i = ap (λ o. option_map (λ (k : KeptFate). k.fate) o) (is.same.fates n i)

or_stands : (a b : Option Fate) (f : Fate) → a ≡ Some f → option_or a b ≡ Some f
or_stands None b f is = cc
or_stands (Some g) b f is = is

-- a recorded fate stays

pub stays : AreReplayLaws → (later before : List Stage) → IsLife (later ++ before) → FateStays later before
stays laws [] before life n i f is = is
stays laws (Ran r ∷ later) before life n i f is = run_fate r (later ++ before) life.1 n i ∙ or_stands (recorded_fate (later ++ before) n i) (given r.recorded n i) f (stays laws later before life.0 n i f is)
stays laws (Replay r ∷ later) before life n i f is = replay_fate laws r (later ++ before) life n i ∙ stays laws later before life.0 n i f is
stays laws (Rewritten list ∷ later) before life n i f is = rewritten_fate list (later ++ before) life.1 n i ∙ stays laws later before life.0 n i f is

-- each is earned

-- where the history gave the place the fate
record GaveIt (h : List Entry) (n i : ℕ) (f : Fate) : Type 0 where
  later : List Entry
  before : List Entry
  by : Option LaneId
  places : List ℕ
  line : Option (List ℕ)
  state : Option WindowState
  moment : ℕ
  is : h ≡ later ++ Gave by n places f line state moment ∷ before
  named : holds places i ≡ true

more_given : (e : Entry) (h : List Entry) (n i : ℕ) (f : Fate) → GaveIt h n i f → GaveIt (e ∷ h) n i f
more_given e h n i f was = record { later = e ∷ was.later; before = was.before; by = was.by; places = was.places; line = was.line; state = was.state; moment = was.moment; is = ap (λ es. e ∷ es) was.is; named = was.named }

gave_it : (h : List Entry) (n i : ℕ) (f : Fate) → given h n i ≡ Some f → GaveIt h n i f
gave_it [] n i f is = cc
gave_it (Gave by k places g line state m ∷ h) n i f is = by_given (λ was. gave_it h n i f was) (given h n i) refl is
  where
    newest : (b : Bool) → ((k == n) && holds places i) ≡ b → (if b then Some g else None) ≡ Some f → GaveIt (Gave by k places g line state m ∷ h) n i f
    newest true named now =
        let parts = and_parts (k == n) (holds places i) named in
        let shard : k ≡ n = eqb-true k n parts.0 in
        let same : g ≡ f = same_Some g f now in
        record { later = []; before = h; by = by; places = places; line = line; state = state; moment = m; is = ap (λ x. Gave by x places g line state m ∷ h) shard ∙ ap (λ x. Gave by n places x line state m ∷ h) same; named = parts.1 }
    newest false other now = cc

    by_given : (given h n i ≡ Some f → GaveIt h n i f) → (o : Option Fate) → given h n i ≡ o → option_or (given h n i) (if (k == n) && holds places i then Some g else None) ≡ Some f → GaveIt (Gave by k places g line state m ∷ h) n i f
    by_given further None was now = newest ((k == n) && holds places i) refl (sym (ap (λ o. option_or o (if (k == n) && holds places i then Some g else None)) was) ∙ now)
    by_given further (Some x) was now = more_given (Gave by k places g line state m) h n i f (further (was ∙ sym (ap (λ o. option_or o (if (k == n) && holds places i then Some g else None)) was) ∙ now))
gave_it (Came k first count m ∷ h) n i f is = more_given (Came k first count m) h n i f (gave_it h n i f is)
gave_it (Began at places c m ∷ h) n i f is = more_given (Began at places c m) h n i f (gave_it h n i f is)
gave_it (Ended at reply m ∷ h) n i f is = more_given (Ended at reply m) h n i f (gave_it h n i f is)
gave_it (Tried at places c t m ∷ h) n i f is = more_given (Tried at places c t m) h n i f (gave_it h n i f is)
gave_it (Closed at w m ∷ h) n i f is = more_given (Closed at w m) h n i f (gave_it h n i f is)
gave_it (Replayed k places m ∷ h) n i f is = more_given (Replayed k places m) h n i f (gave_it h n i f is)
gave_it (Shut m ∷ h) n i f is = more_given (Shut m) h n i f (gave_it h n i f is)

front_or_more : (happened recorded : List Entry) → IsRecorded happened recorded → IsFrontOrMore happened recorded
front_or_more happened recorded (inl front) = inl front
front_or_more happened recorded (inr has) = inr (has.hand, has.before, has.later, has.recorded_is, has.happened_is)

pub earned : (r : Run) (before : List Stage) → IsLife (Ran r ∷ before) → EachIsEarned r before
earned r before life n i f none is =
    let now : given r.recorded n i ≡ Some f = sym (run_fate r before life.1 n i ∙ ap (λ o. option_or o (given r.recorded n i)) none) ∙ is in
    let gave = gave_it r.recorded n i f now in
    let front = happened_before r.happened r.recorded gave.later gave.before (Gave gave.by n gave.places f gave.line gave.state gave.moment) (front_or_more r.happened r.recorded life.1.kept) gave.is in
    record {
      later = gave.later;
      before = gave.before;
      lost = front.0;
      by = gave.by;
      places = gave.places;
      line = gave.line;
      state = gave.state;
      moment = gave.moment;
      gave = gave.is;
      named = gave.named;
      happened = front.1;
      earned = earned_of_legal r.setting r.recorded life.1.legal_recorded gave.later gave.before gave.by n gave.places f gave.line gave.state gave.moment gave.is;
    }

-- calls

pub not_called : (r : Run) (before : List Stage) → IsLife (Ran r ∷ before) → NoneIsCalledAgain r before
not_called r before life later earlier lane places closing m is i member =
    let free = no_repeat_of_legal r.setting r.happened life.1.legal later earlier lane places closing m is i member in
    (sym (fate_found r.setting (content before) life.1.opened lane.shard i) ∙ ap (λ o. option_map (λ (f : FoundFate). f.fate) o) free.0, free.1)

-- a place that was given a fate is named
given_named : (h : List Entry) (n i : ℕ) → IsSome (given h n i) → list_any (names_place n i) h ≡ true
given_named [] n i is = cc
given_named (Gave by k places f line state m ∷ h) n i is = by_name (λ some. given_named h n i some) ((k == n) && holds places i) refl is
  where
    left : (o : Option Fate) → IsSome (option_or o None) → IsSome o
    left None some = some
    left (Some g) some = some

    by_name : (IsSome (given h n i) → list_any (names_place n i) h ≡ true) → (b : Bool) → ((k == n) && holds places i) ≡ b → IsSome (option_or (given h n i) (if (k == n) && holds places i then Some f else None)) → list_any (names_place n i) (Gave by k places f line state m ∷ h) ≡ true
    by_name further true named some = or_left ((k == n) && holds places i) (list_any (names_place n i) h) named
    by_name further false other some =
        or_right ((k == n) && holds places i) (list_any (names_place n i) h) (further (left (given h n i) (subst (λ b. IsSome (option_or (given h n i) (if b then Some f else None))) other some)))
given_named (Came k first count m ∷ h) n i is = given_named h n i is
given_named (Began at places c m ∷ h) n i is = given_named h n i is
given_named (Ended at reply m ∷ h) n i is = given_named h n i is
given_named (Tried at places c t m ∷ h) n i is = given_named h n i is
given_named (Closed at w m ∷ h) n i is = given_named h n i is
given_named (Replayed k places m ∷ h) n i is = given_named h n i is
given_named (Shut m ∷ h) n i is = given_named h n i is

either_some : (a b : Option Fate) → IsSome (option_or a b) → IsSome a ⊎ IsSome b
either_some None b some = inr some
either_some (Some f) b some = inl some

pub in_order : (r : Run) (before : List Stage) → IsLife (Ran r ∷ before) → KeysInOrder r before
in_order r before life later earlier lane places closing m is i j one other at_i at_j same member low =
    elim (order_of_legal r.setting r.happened life.1.legal later earlier lane places closing m is i j one other at_i at_j same member low) [
      | inl inside ↦ inl inside
      | inr fated ↦ inr (elim (either_some (found_only r.setting lane.shard j) (given earlier lane.shard j) fated) [
        | inl found ↦ inl (subst (λ o. IsSome o) (fate_found r.setting (content before) life.1.opened lane.shard j) found)
        | inr gave ↦ inr (given_named earlier lane.shard j gave)
      ])
    ]

-- the checkpoint

some_stays : AreReplayLaws → (later before : List Stage) → IsLife (later ++ before) → (n i : ℕ) → is_some (recorded_fate before n i) ≡ true → is_some (recorded_fate (later ++ before) n i) ≡ true
some_stays laws later before life n i some = by_fate (recorded_fate before n i) refl some
  where
    by_fate : (o : Option Fate) → recorded_fate before n i ≡ o → is_some o ≡ true → is_some (recorded_fate (later ++ before) n i) ≡ true
    by_fate None is none = cc
    by_fate (Some f) is some = ap is_some (stays laws later before life n i f is)

pub checkpoint_stays : AreReplayLaws → (later before : List Stage) → IsLife (later ++ before) → CheckpointStays later before
checkpoint_stays laws later before life n count more low =
    subst (λ xs. length (take_while (λ i. is_some (recorded_fate before n i)) (below count)) ≤ length (take_while (λ i. is_some (recorded_fate (later ++ before) n i)) xs))
    (sym (below_more count (more - count)) ∙ ap below (sum_back count more low))
    (take_while_longer (λ i. is_some (recorded_fate before n i)) (λ i. is_some (recorded_fate (later ++ before) n i)) (some_stays laws later before life n) (below count) (span count (more - count)))
  where
    sum_back : (a b : ℕ) → a ≤ b → (b - a) + a ≡ b
    sum_back a b le = omega arith

only_some : (o : Option KeptFate) → is_some o ≡ is_some (option_map (λ (k : KeptFate). k.fate) o)
only_some None = refl
only_some (Some k) = refl

pub checkpoint_is : (r : Run) (before : List Stage) → IsLife (Ran r ∷ before) → CheckpointIsRuns r before
checkpoint_is r before life n =
    take_while_same (λ i. is_some (recorded_fate (Ran r ∷ before) n i)) (λ i. is_some (fate_said (history (reverse (content (Ran r ∷ before)))) n i)) (below (came_count r.recorded n))
    (λ i. sym (only_some (fate_said (history (reverse (content (Ran r ∷ before)))) n i)))
    ∙ sym (checkpoint_kept r.setting r.recorded life.1.opened.told (content before) life.1.legal_recorded life.1.may_be_said life.1.opened.tells life.1.opened.found.fates n)
  where
    take_while_same : (p q : ℕ → Bool) (xs : List ℕ) → ((i : ℕ) → p i ≡ q i) → length (take_while p xs) ≡ length (take_while q xs)
    take_while_same p q xs same = ap length (take_while_agree p q xs (λ i member. same i))
