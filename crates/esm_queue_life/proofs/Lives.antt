-- The laws of a queue's life, each from those of one run or one redrive.
use Rattle.std.proofs.Common.{◌≡◌, ◌∙◌, ◌⊎◌, ℕ, ◌<◌, Bool, true, false, List, [], ◌∷◌, ◌++◌, Option, Some, None, ap, arith, inl, inr, refl, subst, sym}
use Rattle.std.specs.Prelude.{IsSome, is_some, option_map, reverse}
use Rattle.std.specs.Option.{option_or}
use Rattle.std.proofs.lemmas.Bool.{both_ways}
use Rattle.std.proofs.lemmas.Option.{none-some, same_Some}
use Rattle.esm_model.specs.declared.entry.Entry.{Entry}
use Rattle.esm_model.specs.declared.entry.Entry.TheVariants.{Gave}
use Rattle.esm_model.specs.declared.entry.Fate.{Fate}
use Rattle.esm_model.specs.declared.item.Message.{Message}
use Rattle.esm_model.specs.declared.setup.FoundDeletion.{FoundDeletion}
use Rattle.esm_model.specs.Fates.{given}
use Rattle.esm_journal_state.specs.declared.kept.KeptFate.{KeptFate}
use Rattle.esm_journal_state.specs.Meaning.{are_good, fate_kept}
use Rattle.esm_journal_state.specs.Tells.{deletion_of_found}
use Rattle.esm_queue_model.specs.QueueEntries.{deletion_fate, is_deleted, queue_count}
use Rattle.esm_queue_model.specs.QueueSetting.{found_deletion, is_fifo, message_at}
use Rattle.esm_redrive_life.specs.Content.{DeletionsAreRecorded, HasValidMessages, IsOpenedOver, content_after, deletion_in, given_deletion, kept_of}
use Rattle.esm_redrive_life.specs.Life.{Redrive}
use Rattle.esm_redrive_life.proofs.Recorded.{found_fates, found_told, recorded, stays_good as stays_good_after}
use Rattle.esm_redrive_life.proofs.Rising.{IsTellable, queue_tells, redrive_tells}
use Rattle.esm_redrive_life.proofs.Saying.{ReadAgain}
use Rattle.esm_redrive_model.proofs.Built.{Built, called_came}
use Rattle.esm_redrive_model.proofs.Ends.{deleted_is}
use Rattle.esm_redrive_model.proofs.Lined.{kept_id}
use Rattle.esm_redrive_model.proofs.Named.{built_of}
use Rattle.esm_queue_life.specs.Life.{AreRewritten, DeletionStays, EachDeletedOnce, EachIsEarned, GoesOnFrom, GroupsInOrder, IdsAreKept, IsLife, IsRecorded, NoneIsCalledAgain, Ran, Redriven, Rewritten, Run, Stage, content, run_of}
use Rattle.esm_queue_life.proofs.Earning.{each_earned, gave_it}
use Rattle.esm_queue_life.proofs.Histories.{call_at, called_waits, earlier_first}
use Rattle.esm_queue_life.proofs.Naming.{good_once}

-- options

or_some : {A : Type 0} (a b : Option A) (k : A) → a ≡ Some k → option_or a b ≡ Some k
or_some a b k is = rw is refl

or_parts : {A : Type 0} (a b : Option A) (k : A) → option_or a b ≡ Some k → (a ≡ Some k) ⊎ ((a ≡ None) × (b ≡ Some k))
or_parts None b k is = inr (refl, is)
or_parts (Some x) b k is = inl is

-- what a kept deletion is of
kept_parts : (g : Option Fate) (o : Option Message) (k : KeptFate) → kept_of g o ≡ Some k → (m : Message) × (g ≡ Some k.fate) × (o ≡ Some m) × (m.id ≡ k.text)
kept_parts None o k is = absurd (none-some k is)
kept_parts (Some f) None k is = absurd (none-some k is)
kept_parts (Some f) (Some m) k is =
    let same : fate_kept f m.id ≡ k = same_Some (fate_kept f m.id) k is in
    (m, ap (λ (x : KeptFate). Some x.fate) same, refl, ap (λ (x : KeptFate). x.text) same)

-- one run, or one redrive

pub record IsOneRun (fifo : Bool) (r : Run) (old new : List (List ℕ)) : Type 0 where
  pub kind : is_fifo r.setting.config.kind ≡ fifo
  pub opened : IsOpenedOver r.setting old
  pub messages : HasValidMessages r.setting
  pub built : Built r.setting r.happened
  pub tells : IsTellable r.setting r.recorded
  pub leaves : new ≡ content_after r.setting r.recorded old

of_ran : (fifo : Bool) (r : Run) (before : List Stage) → IsLife fifo (Ran r ∷ before) → IsOneRun fifo r (content before) (content (Ran r ∷ before))
of_ran fifo r before life = record {
  kind = life.1.kind;
  opened = life.1.opened;
  messages = life.1.messages;
  built = (queue_tells r.setting r.happened life.1.legal).0;
  tells = queue_tells r.setting r.recorded life.1.legal_recorded;
  leaves = refl;
}

abbrev pub redriven_run : Redrive → Run
redriven_run r = record { setting = r.setting.queue; happened = r.happened; recorded = r.recorded }

of_redriven : (fifo : Bool) (r : Redrive) (before : List Stage) → IsLife fifo (Redriven r ∷ before) → IsOneRun fifo (redriven_run r) (content before) (content (Redriven r ∷ before))
of_redriven fifo r before life = record {
  kind = life.1.kind;
  opened = life.1.opened;
  messages = life.1.messages;
  built = built_of r.setting r.happened life.1.legal;
  tells = redrive_tells r.setting r.recorded life.1.legal_recorded;
  leaves = refl;
}

one_run : (fifo : Bool) (stage : Stage) (r : Run) (before : List Stage) → IsLife fifo (stage ∷ before) → run_of stage ≡ Some r → IsOneRun fifo r (content before) (content (stage ∷ before))
one_run fifo (Ran x) r before life is = subst (λ (y : Run). IsOneRun fifo y (content before) (content (Ran x ∷ before))) (same_Some x r is) (of_ran fifo x before life)
one_run fifo (Redriven x) r before life is = subst (λ (y : Run). IsOneRun fifo y (content before) (content (Redriven x ∷ before))) (same_Some (redriven_run x) r is) (of_redriven fifo x before life)
one_run fifo (Rewritten list) r before life is = absurd (none-some r is)

life_before : (fifo : Bool) (stage : Stage) (life : List Stage) → IsLife fifo (stage ∷ life) → IsLife fifo life
life_before fifo (Ran r) life is = is.0
life_before fifo (Redriven r) life is = is.0
life_before fifo (Rewritten list) life is = is.0

-- what is recorded

recorded_by : ReadAgain → (fifo : Bool) (r : Run) (old new : List (List ℕ)) → IsOneRun fifo r old new → DeletionsAreRecorded old r.setting r.recorded
recorded_by again fifo r old new one = recorded again r.setting r.recorded old one.opened one.messages one.tells

pub all_recorded : ReadAgain → (fifo : Bool) (stage : Stage) (r : Run) (before : List Stage) → IsLife fifo (stage ∷ before) → run_of stage ≡ Some r → DeletionsAreRecorded (content before) r.setting r.recorded
all_recorded again fifo stage r before life is = recorded_by again fifo r (content before) (content (stage ∷ before)) (one_run fifo stage r before life is)

run_keeps : ReadAgain → (fifo : Bool) (r : Run) (old new : List (List ℕ)) → IsOneRun fifo r old new → (i : ℕ) (k : KeptFate) → deletion_in old i ≡ Some k → deletion_in new i ≡ Some k
run_keeps again fifo r old new one i k was =
    ap (λ (list : List (List ℕ)). deletion_in list i) one.leaves
    ∙ ((recorded_by again fifo r old new one).said i ∙ or_some (deletion_in old i) (given_deletion r.setting r.recorded i) k was)

stage_keeps : ReadAgain → (fifo : Bool) (stage : Stage) (life : List Stage) → IsLife fifo (stage ∷ life) → (i : ℕ) (k : KeptFate) → deletion_in (content life) i ≡ Some k → deletion_in (content (stage ∷ life)) i ≡ Some k
stage_keeps again fifo (Ran r) life is i k was = run_keeps again fifo r (content life) (content (Ran r ∷ life)) (of_ran fifo r life is) i k was
stage_keeps again fifo (Redriven r) life is i k was = run_keeps again fifo (redriven_run r) (content life) (content (Redriven r ∷ life)) (of_redriven fifo r life is) i k was
stage_keeps again fifo (Rewritten list) life is i k was = is.1.same.deletions i ∙ was

pub stays : ReadAgain → (fifo : Bool) (later before : List Stage) → IsLife fifo (later ++ before) → DeletionStays later before
stays again fifo [] before life i k was = was
stays again fifo (stage ∷ later) before life i k was =
    stage_keeps again fifo stage (later ++ before) life i k (stays again fifo later before (life_before fifo stage (later ++ before) life) i k was)

-- good payloads

run_good : ReadAgain → (fifo : Bool) (r : Run) (old new : List (List ℕ)) → IsOneRun fifo r old new → are_good (reverse old) ≡ true → are_good (reverse new) ≡ true
run_good again fifo r old new one good =
    ap (λ (list : List (List ℕ)). are_good (reverse list)) one.leaves ∙ stays_good_after again r.setting r.recorded old one.opened one.messages one.tells good

pub good : ReadAgain → (fifo : Bool) (life : List Stage) → IsLife fifo life → are_good (reverse (content life)) ≡ true
good again fifo [] life = refl
good again fifo (Ran r ∷ before) life = run_good again fifo r (content before) (content (Ran r ∷ before)) (of_ran fifo r before life) (good again fifo before life.0)
good again fifo (Redriven r ∷ before) life = run_good again fifo (redriven_run r) (content before) (content (Redriven r ∷ before)) (of_redriven fifo r before life) (good again fifo before life.0)
good again fifo (Rewritten list ∷ before) life = life.1.good

pub once : ReadAgain → (fifo : Bool) (life : List Stage) → IsLife fifo life → EachDeletedOnce life
once again fifo life is i = good_once (reverse (content life)) i (good again fifo life is)

-- what is earned

-- a front of what happened, or that and a further entry
abbrev pub IsFrontOrMore : (happened recorded : List Entry) → Type 0
IsFrontOrMore happened recorded =
    ((lost : List Entry) × (happened ≡ lost ++ recorded)) ⊎ ((hand : Entry) × (front : List Entry) × (more : List Entry) × (recorded ≡ hand ∷ front) × (happened ≡ more ++ front))

regroup : (first later : List Entry) (e : Entry) (before : List Entry) → first ++ (later ++ e ∷ before) ≡ (first ++ (later ++ e ∷ [])) ++ before
regroup [] [] e before = refl
regroup [] (x ∷ later) e before = ap (λ (es : List Entry). x ∷ es) (regroup [] later e before)
regroup (x ∷ first) later e before = ap (λ (es : List Entry). x ∷ es) (regroup first later e before)

-- what stood before an entry of what was recorded is a front of what happened
pub happened_before : (happened recorded later before : List Entry) (e : Entry) → IsFrontOrMore happened recorded → recorded ≡ later ++ e ∷ before → (lost : List Entry) × (happened ≡ lost ++ before)
happened_before happened recorded later before e (inl front) is =
    (front.0 ++ (later ++ e ∷ []), front.1 ∙ (ap (λ (es : List Entry). front.0 ++ es) is ∙ regroup front.0 later e before))
happened_before happened recorded later before e (inr has) is = by_later later (sym has.3 ∙ is)
  where
    by_later : (later : List Entry) → has.0 ∷ has.1 ≡ later ++ e ∷ before → (lost : List Entry) × (happened ≡ lost ++ before)
    by_later [] same = (let rest : has.1 ≡ before = cc in (has.2, has.4 ∙ ap (λ (es : List Entry). has.2 ++ es) rest))
    by_later (x ∷ later) same =
        (let rest : has.1 ≡ later ++ e ∷ before = cc in
        (has.2 ++ (later ++ e ∷ []), has.4 ∙ (ap (λ (es : List Entry). has.2 ++ es) rest ∙ regroup has.2 later e before)))

front_or_more : (happened recorded : List Entry) → IsRecorded happened recorded → IsFrontOrMore happened recorded
front_or_more happened recorded (inl front) = inl front
front_or_more happened recorded (inr has) = inr (has.hand, has.before, has.later, has.recorded_is, has.happened_is)

-- a deletion that the content says after a run, and did not say before it
pub new_one : ReadAgain → (fifo : Bool) (stage : Stage) (r : Run) (before : List Stage) → IsLife fifo (stage ∷ before) → run_of stage ≡ Some r → (i : ℕ) (k : KeptFate) → deletion_in (content before) i ≡ None
    → deletion_in (content (stage ∷ before)) i ≡ Some k → (m : Message) × (given r.recorded 0 i ≡ Some k.fate) × (message_at r.setting i ≡ Some m) × (m.id ≡ k.text)
new_one again fifo stage r before life is i k none now =
    let one = one_run fifo stage r before life is in
    let said = (all_recorded again fifo stage r before life is).said i in
    elim (or_parts (deletion_in (content before) i) (given_deletion r.setting r.recorded i) k (sym said ∙ (sym (ap (λ (list : List (List ℕ)). deletion_in list i) one.leaves) ∙ now))) [
      | inl was ↦ absurd (none-some k (sym none ∙ was))
      | inr new ↦ kept_parts (given r.recorded 0 i) (message_at r.setting i) k new.1
    ]

pub earned : ReadAgain → (fifo : Bool) (r : Run) (before : List Stage) → IsLife fifo (Ran r ∷ before) → EachIsEarned r before
earned again fifo r before life i k none now =
    let parts = new_one again fifo (Ran r) r before life refl i k none now in
    let gave = gave_it r.recorded i k.fate parts.1 in
    let front = happened_before r.happened r.recorded gave.later gave.before (Gave gave.by 0 gave.places k.fate gave.line gave.state gave.moment) (front_or_more r.happened r.recorded life.1.kept) gave.is in
    record {
      later = gave.later;
      before = gave.before;
      lost = front.0;
      by = gave.by;
      places = gave.places;
      line = gave.line;
      state = gave.state;
      moment = gave.moment;
      gave = gave.is;
      named = gave.named;
      happened = front.1;
      earned = each_earned r.setting r.recorded life.1.legal_recorded gave.later gave.before gave.by 0 gave.places k.fate gave.line gave.state gave.moment gave.is i gave.named;
      message = parts.0;
      at = parts.2;
      id = parts.3;
    }

-- calls

none_fated : (a g : Option Fate) → is_some (option_or a g) ≡ false → (a ≡ None) × (g ≡ None)
none_fated None None none = (refl, refl)
none_fated None (Some x) none = absurd (both_ways true none refl)
none_fated (Some x) g none = absurd (both_ways true none refl)

none_kept : (o : Option KeptFate) → option_map (λ (k : KeptFate). k.fate) o ≡ None → o ≡ None
none_kept None is = refl
none_kept (Some k) is = cc

pub not_called : (fifo : Bool) (stage : Stage) (r : Run) (before : List Stage) → IsLife fifo (stage ∷ before) → run_of stage ≡ Some r → NoneIsCalledAgain r before
not_called fifo stage r before life is later earlier lane places closing m split i member =
    let one = one_run fifo stage r before life is in
    let call = call_at r.setting r.happened later earlier lane places closing m one.built split in
    let low : i < queue_count earlier = called_came r.setting earlier places m i call.built call.eligible member in
    let waits : is_deleted r.setting earlier i ≡ false = called_waits r.setting earlier places m i call member in
    let none = none_fated (option_map (λ (f : FoundDeletion). f.fate) (found_deletion r.setting i)) (given earlier 0 i) (sym (deleted_is r.setting earlier call.built i low) ∙ waits) in
    (none_kept (deletion_in (content before) i) (found_fates r.setting (content before) one.opened i ∙ none.0), none.1)

-- the id of a recorded deletion
found_kept : (o : Option FoundDeletion) (k : KeptFate) → option_map deletion_of_found o ≡ Some k → (f : FoundDeletion) × (o ≡ Some f) × (f.text ≡ k.text)
found_kept None k is = absurd (none-some k is)
found_kept (Some f) k is = (f, refl, ap (λ (x : KeptFate). x.text) (same_Some (deletion_of_found f) k is))

pub ids_kept : (fifo : Bool) (stage : Stage) (r : Run) (before : List Stage) → IsLife fifo (stage ∷ before) → run_of stage ≡ Some r → IdsAreKept r before
ids_kept fifo stage r before life is i k m low at message =
    let one = one_run fifo stage r before life is in
    let found = found_kept (found_deletion r.setting i) k (found_told r.setting (content before) one.opened i ∙ at) in
    kept_id r.setting r.happened one.built i found.0 m low message found.1 ∙ found.2

fated_parts : (a g : Option Fate) → is_some (option_or a g) ≡ true → IsSome a ⊎ IsSome g
fated_parts None None some = absurd (both_ways false refl some)
fated_parts None (Some x) some = inr refl
fated_parts (Some x) g some = inl refl

kept_some : (o : Option KeptFate) (a : Option Fate) → option_map (λ (k : KeptFate). k.fate) o ≡ a → IsSome a → IsSome o
kept_some None None is some = some
kept_some None (Some f) is some = cc
kept_some (Some k) a is some = refl

pub in_order : (stage : Stage) (r : Run) (before : List Stage) → IsLife true (stage ∷ before) → run_of stage ≡ Some r → GroupsInOrder r before
in_order stage r before life is later earlier lane places closing m split i j x y at_i at_j group member low =
    let one = one_run true stage r before life is in
    let call = call_at r.setting r.happened later earlier lane places closing m one.built split in
    let came : i < queue_count earlier = called_came r.setting earlier places m i call.built call.eligible member in
    elim (earlier_first r.setting earlier places m i j x y one.kind call at_i at_j group member low) [
      | inl deleted ↦
          (let fated : is_some (deletion_fate r.setting earlier j) ≡ true = sym (deleted_is r.setting earlier call.built j (omega (arith, came, low))) ∙ deleted in
          inr (elim (fated_parts (option_map (λ (f : FoundDeletion). f.fate) (found_deletion r.setting j)) (given earlier 0 j) fated) [
            | inl found ↦ inl (kept_some (deletion_in (content before) j) (option_map (λ (f : FoundDeletion). f.fate) (found_deletion r.setting j)) (found_fates r.setting (content before) one.opened j) found)
            | inr gave ↦ inr gave
          ]))
      | inr inside ↦ inl inside
    ]

-- the next run

-- rewritings leave the deletions
alike : (fifo : Bool) (between before : List Stage) → IsLife fifo (between ++ before) → AreRewritten between → (i : ℕ) → deletion_in (content (between ++ before)) i ≡ deletion_in (content before) i
alike fifo [] before life all i = refl
alike fifo (Ran r ∷ between) before life all i = absurd all
alike fifo (Redriven r ∷ between) before life all i = absurd all
alike fifo (Rewritten list ∷ between) before life all i = life.1.same.deletions i ∙ alike fifo between before life.0 all i

life_after : (fifo : Bool) (between before : List Stage) → IsLife fifo (between ++ before) → IsLife fifo before
life_after fifo [] before life = life
life_after fifo (stage ∷ between) before life = life_after fifo between before (life_before fifo stage (between ++ before) life)

pub goes_on : ReadAgain → (fifo : Bool) (later earlier : Stage) (next r : Run) (between before : List Stage) → IsLife fifo (later ∷ between ++ earlier ∷ before) → AreRewritten between → run_of later ≡ Some next → run_of earlier ≡ Some r → GoesOnFrom r next
goes_on again fifo later earlier next r between before life all is_next is i =
    let old = content (between ++ earlier ∷ before) in
    let then = one_run fifo later next (between ++ earlier ∷ before) life is_next in
    let rest = life_before fifo later (between ++ earlier ∷ before) life in
    let own = life_after fifo between (earlier ∷ before) rest in
    let one = one_run fifo earlier r before own is in
    sym (found_fates next.setting old then.opened i)
    ∙ (ap (option_map (λ (k : KeptFate). k.fate)) (alike fifo between (earlier ∷ before) rest all i ∙ ap (λ (list : List (List ℕ)). deletion_in list i) one.leaves)
    ∙ (recorded_by again fifo r (content before) (content (earlier ∷ before)) one).fates i)
