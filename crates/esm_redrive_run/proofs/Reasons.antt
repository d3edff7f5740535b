-- Each deletion that the payloads of a journal tell of is for one of the reasons of a redrive: no payload reads as an expiry.
use Rattle.std.proofs.Common.{◌≡◌, ◌∙◌, ℕ, Bool, true, false, cond, List, [], ◌∷◌, Option, Some, None, ap, refl, subst, sym}
use Rattle.std.specs.Prelude.{⊤, ◌==◌, length, option_map}
use Rattle.std.specs.Option.{option_or}
use Rattle.std.specs.List.{cons_option}
use Rattle.std.proofs.lemmas.Option.{none-some, same_Some}
use Rattle.esm_model.specs.declared.entry.Fate.{Fate}
use Rattle.esm_model.specs.declared.entry.Fate.TheVariants.{Succeeded, Filtered, Expired, Exhausted}
use Rattle.esm_model.specs.Sequence.{is_sequence}
use Rattle.esm_model.specs.declared.setup.FoundDeletion.{FoundDeletion}
use Rattle.esm_journal_record.specs.declared.said.Said.{Said}
use Rattle.esm_journal_record.specs.declared.said.Said.TheVariants.{Fates, Closed, Deleted, State, Tried, WindowTried, Replayed}
use Rattle.esm_journal_record.specs.Parsing.{◌>>=◌, ◌⊗◌, byte_at, closed_at, deleted_at, fate_at, fates_at, flagged_at, made, moment_at, named_at, only, replayed_at, said_at, said_of, shard_at, state_at, state_of, text_at, tried_at, tries_at, window_tried_at}
use Rattle.esm_journal_record.specs.Payload.{is_deletion, is_message_id, may_keep}
use Rattle.esm_journal_state.specs.declared.kept.KeptFate.{KeptFate}
use Rattle.esm_journal_state.specs.Meaning.{deletion_said, fate_kept, history, text_named}
use Rattle.esm_journal_state.specs.SaidLists.{SaidLists}
use Rattle.esm_journal_state.specs.Tells.{Tells, deletion_of_found}
use Rattle.esm_queue_model.specs.QueueSetting.{found_deletion}
use Rattle.esm_redrive_model.specs.RedriveLaws.{FoundForThese, is_redrive_fate}
use Rattle.esm_redrive_model.specs.RedriveSetting.{RedriveSetting}

-- a payload

abbrev IsReasoned : Said → Type 0
IsReasoned (Fates shard fate moment state places texts) = ⊤
IsReasoned (Closed shard window moment) = ⊤
IsReasoned (Deleted fate moment places texts) = is_deletion fate ≡ true
IsReasoned (State shard moment state) = ⊤
IsReasoned (Tried shard moment tries places texts) = ⊤
IsReasoned (WindowTried shard window moment tries) = ⊤
IsReasoned (Replayed shard moment places texts) = ⊤

abbrev IsReasonedAt : Option (Said × List ℕ) → Type 0
IsReasonedAt None = ⊤
IsReasonedAt (Some x) = IsReasoned x.0

made_reasoned : {A : Type 0} (field : List ℕ → Option (A × List ℕ)) (make : A → Said) (bytes : List ℕ) → ((x : A × List ℕ) → field bytes ≡ Some x → IsReasoned (make x.0)) → IsReasonedAt (made make field bytes)
made_reasoned {A} field make bytes well = at (field bytes) refl
  where
    at : (o : Option (A × List ℕ)) → field bytes ≡ o → IsReasonedAt (o >>= λ x. Some (make x.0, x.1))
    at None is = tt
    at (Some x) is = well x is

-- the first field passes
only_first : {A B : Type 0} (passes : A → Bool) (first : List ℕ → Option (A × List ℕ)) (second : List ℕ → Option (B × List ℕ)) (bytes : List ℕ) (z : (A × B) × List ℕ) → (only passes first ⊗ second) bytes ≡ Some z → passes z.0.0 ≡ true
only_first {A} {B} passes first second bytes z = at (first bytes)
  where
    last : (x : A × List ℕ) (o : Option (B × List ℕ)) → passes x.0 ≡ true → (o >>= λ y. Some ((x.0, y.0), y.1)) ≡ Some z → passes z.0.0 ≡ true
    last x None passed is = absurd (none-some z is)
    last x (Some y) passed is = subst (λ (w : (A × B) × List ℕ). passes w.0.0 ≡ true) (same_Some ((x.0, y.0), y.1) z is) passed

    middle : (x : A × List ℕ) (b : Bool) → passes x.0 ≡ b → ((cond b (Some x) None) >>= λ v. (second v.1 >>= λ y. Some ((v.0, y.0), y.1))) ≡ Some z → passes z.0.0 ≡ true
    middle x true passed is = last x (second x.1) passed is
    middle x false passed is = absurd (none-some z is)

    at : (o : Option (A × List ℕ)) → ((o >>= λ x. cond (passes x.0) (Some x) None) >>= λ v. (second v.1 >>= λ y. Some ((v.0, y.0), y.1))) ≡ Some z → passes z.0.0 ≡ true
    at None is = absurd (none-some z is)
    at (Some x) is = middle x (passes x.0) refl is

fates_reasoned : (bytes : List ℕ) → IsReasonedAt (fates_at bytes)
unfolding fates_at
fates_reasoned bytes =
    made_reasoned (only (λ x. may_keep x.1.0 x.1.1.1.0) (shard_at ⊗ fate_at ⊗ moment_at ⊗ flagged_at ⊗ named_at is_sequence)) (λ x. Fates x.0 x.1.0 x.1.1.0 x.1.1.1.0 x.1.1.1.1.places x.1.1.1.1.texts) bytes (λ x is. tt)

closed_reasoned : (bytes : List ℕ) → IsReasonedAt (closed_at bytes)
unfolding closed_at
closed_reasoned bytes = made_reasoned (shard_at ⊗ moment_at ⊗ moment_at) (λ x. Closed x.0 x.1.0 x.1.1) bytes (λ x is. tt)

deleted_reasoned : (bytes : List ℕ) → IsReasonedAt (deleted_at bytes)
unfolding deleted_at
deleted_reasoned bytes =
    made_reasoned (only is_deletion fate_at ⊗ moment_at ⊗ named_at is_message_id) (λ x. Deleted x.0 x.1.0 x.1.1.places x.1.1.texts) bytes (λ x is. only_first is_deletion fate_at (moment_at ⊗ named_at is_message_id) bytes x is)

state_reasoned : (bytes : List ℕ) → IsReasonedAt (state_at bytes)
unfolding state_at
state_reasoned bytes =
    made_reasoned (shard_at ⊗ moment_at ⊗ moment_at ⊗ text_at) (λ x. State x.0 x.1.1.0 (state_of (x.1.0, x.1.1.1))) bytes (λ x is. tt)

tried_reasoned : (bytes : List ℕ) → IsReasonedAt (tried_at bytes)
unfolding tried_at
tried_reasoned bytes =
    made_reasoned (shard_at ⊗ moment_at ⊗ tries_at ⊗ named_at is_sequence) (λ x. Tried x.0 x.1.0 x.1.1.0 x.1.1.1.places x.1.1.1.texts) bytes (λ x is. tt)

window_tried_reasoned : (bytes : List ℕ) → IsReasonedAt (window_tried_at bytes)
unfolding window_tried_at
window_tried_reasoned bytes =
    made_reasoned (shard_at ⊗ moment_at ⊗ moment_at ⊗ tries_at) (λ x. WindowTried x.0 x.1.0 x.1.1.0 x.1.1.1) bytes (λ x is. tt)

replayed_reasoned : (bytes : List ℕ) → IsReasonedAt (replayed_at bytes)
unfolding replayed_at
replayed_reasoned bytes =
    made_reasoned (shard_at ⊗ moment_at ⊗ named_at is_sequence) (λ x. Replayed x.0 x.1.0 x.1.1.places x.1.1.texts) bytes (λ x is. tt)

reasoned_either : (b : Bool) (one other : Option (Said × List ℕ)) → IsReasonedAt one → IsReasonedAt other → IsReasonedAt (cond b one other)
reasoned_either true one other is is_other = is
reasoned_either false one other is is_other = is_other

kind_reasoned : (kind : ℕ) (bytes : List ℕ) → IsReasonedAt (said_at kind bytes)
unfolding said_at
kind_reasoned kind bytes =
    reasoned_either (kind == 1) _ _ (fates_reasoned bytes)
    (reasoned_either (kind == 2) _ _ (closed_reasoned bytes)
    (reasoned_either (kind == 3) _ _ (deleted_reasoned bytes)
    (reasoned_either (kind == 4) _ _ (state_reasoned bytes)
    (reasoned_either (kind == 5) _ _ (tried_reasoned bytes)
    (reasoned_either (kind == 6) _ _ (window_tried_reasoned bytes)
    (reasoned_either (kind == 7) _ _ (replayed_reasoned bytes) tt))))))

abbrev IsReasonedSaid : Option Said → Type 0
IsReasonedSaid None = ⊤
IsReasonedSaid (Some s) = IsReasoned s

said_reasoned : (bytes : List ℕ) → IsReasonedSaid (said_of bytes)
unfolding said_of
said_reasoned bytes = at (byte_at bytes)
  where
    ends : (b : Bool) (x : Said × List ℕ) → IsReasoned x.0 → IsReasonedSaid (cond b (Some x.0) None)
    ends true x is = is
    ends false x is = tt

    next : (o : Option (Said × List ℕ)) → IsReasonedAt o → IsReasonedSaid (o >>= λ x. cond (length x.1 == 0) (Some x.0) None)
    next None is = tt
    next (Some x) is = ends (length x.1 == 0) x is

    at : (o : Option (ℕ × List ℕ)) → IsReasonedSaid (o >>= λ k. (said_at k.0 k.1 >>= λ x. cond (length x.1 == 0) (Some x.0) None))
    at None = tt
    at (Some k) = next (said_at k.0 k.1) (kind_reasoned k.0 k.1)

-- all payloads

abbrev AllReasoned : List Said → Type 0
AllReasoned [] = ⊤
AllReasoned (s ∷ h) = IsReasoned s × AllReasoned h

one_more : (o : Option Said) (h : List Said) → IsReasonedSaid o → AllReasoned h → AllReasoned (cons_option o h)
one_more None h is all = all
one_more (Some s) h is all = (is, all)

all_reasoned : (payloads : List (List ℕ)) → AllReasoned (history payloads)
all_reasoned [] = tt
all_reasoned (payload ∷ payloads) = one_more (said_of payload) (history payloads) (said_reasoned payload) (all_reasoned payloads)

abbrev IsReasonedFate : Option KeptFate → Type 0
IsReasonedFate None = ⊤
IsReasonedFate (Some k) = is_deletion k.fate ≡ true

here_or_before : (fate : Fate) (text : Option (List ℕ)) (before : Option KeptFate) → is_deletion fate ≡ true → IsReasonedFate before → IsReasonedFate (option_or (option_map (fate_kept fate) text) before)
here_or_before fate None before is was = was
here_or_before fate (Some text) before is was = is

fate_reasoned : (h : List Said) (i : ℕ) → AllReasoned h → IsReasonedFate (deletion_said h i)
fate_reasoned [] i all = tt
fate_reasoned (Fates shard fate moment state places texts ∷ h) i all = fate_reasoned h i all.1
fate_reasoned (Closed shard window moment ∷ h) i all = fate_reasoned h i all.1
fate_reasoned (Deleted fate moment places texts ∷ h) i all = here_or_before fate (text_named places texts i) (deletion_said h i) all.0 (fate_reasoned h i all.1)
fate_reasoned (State shard moment state ∷ h) i all = fate_reasoned h i all.1
fate_reasoned (Tried shard moment tries places texts ∷ h) i all = fate_reasoned h i all.1
fate_reasoned (WindowTried shard window moment tries ∷ h) i all = fate_reasoned h i all.1
fate_reasoned (Replayed shard moment places texts ∷ h) i all = fate_reasoned h i all.1

redrives : (f : Fate) → is_deletion f ≡ true → is_redrive_fate f ≡ true
redrives Succeeded is = refl
redrives Filtered is = refl
redrives Expired is = is
redrives Exhausted is = refl

pub found_for_these : (s : RedriveSetting) (said : SaidLists) (payloads : List (List ℕ)) → Tells said (history payloads) → s.queue.deletions ≡ said.deletions → FoundForThese s
found_for_these s said payloads tells same i f found =
    let told : deletion_said (history payloads) i ≡ Some (deletion_of_found f) =
    sym (tells.deletions i)
    ∙ (ap (λ (ds : List FoundDeletion). option_map deletion_of_found (found_deletion (record s.queue { deletions = ds }) i)) (sym same)
    ∙ ap (option_map deletion_of_found) found) in
    redrives f.fate (subst IsReasonedFate told (fate_reasoned (history payloads) i (all_reasoned payloads)))
