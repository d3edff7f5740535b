-- What a journal says after a run: its payloads say what its history did.
use Rattle.std.proofs.Common.{◌≡◌, ◌∙◌, ℕ, Bool, true, false, ◌||◌, List, [], ◌∷◌, ◌++◌, Option, Some, None, ap, refl}
use Rattle.std.specs.Prelude.{◌==◌, ◌&&◌, filter_map, reverse, option_map, IfSome}
use Rattle.std.specs.List.{cons_option}
use Rattle.std.proofs.lemmas.List.{reverse-append, reverse-reverse}
use Rattle.std.proofs.lemmas.List.Elements.{filter_map-append}
use Rattle.esm_model.specs.declared.entry.Entry.{Entry}
use Rattle.esm_model.specs.declared.entry.Entry.TheVariants.{Came, Began, Ended, Gave, Tried, Closed, Replayed, Shut}
use Rattle.esm_model.specs.Entries.{holds}
use Rattle.esm_model.specs.Setting.{Setting}
use Rattle.esm_journal_record.specs.declared.said.Said.{Said}
use Rattle.esm_journal_record.specs.Payload.{payload_of, IsSaid}
use Rattle.esm_journal_record.specs.Parsing.{said_of}
use Rattle.esm_journal_record.specs.EntryPayload.{entry_said, entry_payload, history_payloads, AllMayBeSaid}
use Rattle.esm_journal_record.proofs.Payloads.{said_again}
use Rattle.esm_journal_record.proofs.EntryFacts.{reversed}
use Rattle.esm_journal_state.specs.Meaning.{history, fate_said, tries_said, replayed_said}
use Rattle.esm_replay_model.specs.ReplaySetting.{ReplaySetting}
use Rattle.esm_replay_model.specs.ReplayReport.{is_replayed}
use Rattle.esm_replay_model.specs.ReplayRun.{IsReplay}
use Rattle.esm_replay_model.specs.ReplayLaws.{SaysAfter}

-- payloads

one_again : (o : Option Said) (payloads : List (List ℕ)) → IfSome o IsSaid → filter_map said_of (cons_option (option_map payload_of o) payloads) ≡ cons_option o (filter_map said_of payloads)
one_again None payloads may = refl
one_again (Some said) payloads may = ap (λ (o : Option Said). cons_option o (filter_map said_of payloads)) (said_again said may)

all_again : (s : Setting) (h : List Entry) → AllMayBeSaid s h → filter_map said_of (filter_map (entry_payload s) h) ≡ filter_map (entry_said s) h
all_again s [] may = refl
all_again s (e ∷ h) may = one_again (entry_said s e) (filter_map (entry_payload s) h) may.1 ∙ ap (cons_option (entry_said s e)) (all_again s h may.0)

-- what the old payloads and those of a history say
pub history_says : (s : Setting) (h : List Entry) (old : List (List ℕ)) → AllMayBeSaid s h → history (reverse (old ++ history_payloads s h)) ≡ filter_map (entry_said s) h ++ history (reverse old)
history_says s h old may =
    ap (filter_map said_of) (reverse-append old (history_payloads s h))
    ∙ filter_map-append said_of (reverse (history_payloads s h)) (reverse old)
    ∙ ap (λ (ps : List (List ℕ)). filter_map said_of ps ++ history (reverse old)) (ap reverse (reversed (entry_payload s) h) ∙ reverse-reverse (filter_map (entry_payload s) h))
    ∙ ap (λ (g : List Said). g ++ history (reverse old)) (all_again s h may)

-- a place, by what a run says over what was said

pub record SaysOf (s : ReplaySetting) (h : List Entry) (old : List Said) (n i : ℕ) : Type 0 where
  pub fates : fate_said (filter_map (entry_said s.base) h ++ old) n i ≡ fate_said old n i
  pub tries : tries_said (filter_map (entry_said s.base) h ++ old) n i ≡ tries_said old n i
  pub replays : replayed_said (filter_map (entry_said s.base) h ++ old) n i ≡ (replayed_said old n i || is_replayed h n i)

or_none : (a : Bool) → a ≡ (a || false)
or_none true = refl
or_none false = refl

or_between : (a b c : Bool) → (a || (b || c)) ≡ (b || (a || c))
or_between true true c = refl
or_between true false c = refl
or_between false true c = refl
or_between false false c = refl

pub says_of : (s : ReplaySetting) (h : List Entry) (old : List Said) (n i : ℕ) → IsReplay s h → SaysOf s h old n i
says_of s [] old n i run = record { fates = refl; tries = refl; replays = or_none (replayed_said old n i) }
says_of s (Began lane places None m ∷ h) old n i run =
    let before : SaysOf s h old n i = says_of s h old n i run.0 in
    record { fates = before.fates; tries = before.tries; replays = before.replays }
says_of s (Began lane places (Some window) m ∷ h) old n i run = absurd run.1.1
says_of s (Ended lane reply m ∷ h) old n i run =
    let before : SaysOf s h old n i = says_of s h old n i run.0 in
    record { fates = before.fates; tries = before.tries; replays = before.replays }
says_of s (Replayed shard places m ∷ h) old n i run =
    let before : SaysOf s h old n i = says_of s h old n i run.0 in
    let own : Bool = (shard == n) && holds places i in
    record {
      fates = before.fates;
      tries = before.tries;
      replays = ap (λ (b : Bool). own || b) before.replays ∙ or_between own (replayed_said old n i) (is_replayed h n i);
    }
says_of s (Came shard first count m ∷ h) old n i run = absurd run.1.1
says_of s (Gave by shard places f line state m ∷ h) old n i run = absurd run.1.1
says_of s (Tried lane places closing tries m ∷ h) old n i run = absurd run.1.1
says_of s (Closed lane window m ∷ h) old n i run = absurd run.1.1
says_of s (Shut m ∷ h) old n i run = absurd run.1.1

pub says_after : (s : ReplaySetting) (h : List Entry) (old : List (List ℕ)) → IsReplay s h → AllMayBeSaid s.base h → SaysAfter s h old
says_after s h old run may =
    let is = history_says s.base h old may in
    record {
      fates = λ n i. ap (λ (g : List Said). fate_said g n i) is ∙ (says_of s h (history (reverse old)) n i run).fates;
      tries = λ n i. ap (λ (g : List Said). tries_said g n i) is ∙ (says_of s h (history (reverse old)) n i run).tries;
      replays = λ n i. ap (λ (g : List Said). replayed_said g n i) is ∙ (says_of s h (history (reverse old)) n i run).replays;
    }
