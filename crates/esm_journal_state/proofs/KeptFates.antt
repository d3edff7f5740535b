-- The fates that a journal's payloads say are those of the history whose payloads they are.
use Rattle.std.proofs.Common.{◌≡◌, ℕ, ◌<◌, ◌≤◌, Bool, true, false, cond, ◌&&◌, ◌||◌, List, [], ◌∷◌, ◌++◌, length, map, refl, sym, ap, ◌∙◌, subst, inl, inr, Option, Some, None, arith}
use Rattle.std.specs.Prelude.{◌==◌, take_while, filter_map, reverse, option_map, is_some, is_none, IfSome}
use Rattle.std.specs.List.{cons_option}
use Rattle.std.specs.Option.{option_or}
use Rattle.std.proofs.lemmas.List.{reverse-append, reverse-reverse}
use Rattle.std.proofs.lemmas.List.Elements.{filter_map-append}
use Rattle.std.proofs.lemmas.Bool.{and_parts, eqb-true}
use Rattle.std.proofs.lemmas.Option.{slice_get_cases}
use Rattle.esm_model.specs.Records.{Record}
use Rattle.esm_model.specs.declared.setup.FoundFate.{FoundFate}
use Rattle.esm_model.specs.declared.entry.Fate.{Fate}
use Rattle.esm_model.specs.declared.entry.Entry.{Entry}
use Rattle.esm_model.specs.declared.entry.Entry.TheVariants.{Came, Began, Ended, Gave, Tried, Closed, Replayed, Shut}
use Rattle.esm_model.specs.Setting.{Setting, record_at, records_of, records_at, sequences_at, found_fate}
use Rattle.esm_model.specs.Entries.{holds, came_count}
use Rattle.esm_model.specs.Fates.{fate, given, has_fate, came_places}
use Rattle.esm_model.specs.Checkpoint.{checkpoint}
use Rattle.esm_model.specs.Step.{Legal}
use Rattle.esm_model.proofs.Lists.{In, In-here, In-there, take_while_agree}
use Rattle.esm_model.proofs.Records.{came_within}
use Rattle.esm_model.proofs.Paid.{gave_open}
use Rattle.esm_model.proofs.NamedPlaces.{names_came}
use Rattle.esm_journal_record.specs.declared.said.Said.{Said}
use Rattle.esm_journal_record.specs.Payload.{payload_of, IsSaid}
use Rattle.esm_journal_record.specs.Parsing.{said_of}
use Rattle.esm_journal_record.specs.EntryPayload.{entry_said, entry_payload, history_payloads, AllMayBeSaid}
use Rattle.esm_journal_record.proofs.Payloads.{said_again}
use Rattle.esm_journal_record.proofs.EntryFacts.{reversed}
use Rattle.esm_journal_state.specs.declared.kept.KeptFate.{KeptFate}
use Rattle.esm_journal_state.specs.Meaning.{text_named, only_at, fate_kept, fate_said, history}
use Rattle.esm_journal_state.specs.SaidLists.{SaidLists, fate_told}
use Rattle.esm_journal_state.specs.Tells.{Tells, fate_of_found}

abbrev fate_only : Option KeptFate → Option Fate
fate_only o = option_map (λ (k : KeptFate). k.fate) o

-- the sequence numbers of places that stand in the list

text_there : (s : Setting) (n : ℕ) (places : List ℕ) → ((i : ℕ) → In places i → i < length (records_of s n)) → (i : ℕ) → is_some (text_named places (sequences_at s n places) i) ≡ holds places i
text_there s n [] stand i = refl
text_there s n (j ∷ places) stand i =
    elim (slice_get_cases (records_of s n) j).1 [
      | inl there ↦ at_record there.0 there.2 (text_there s n places (λ k member. stand k (In-there j places k member)) i)
      | inr past ↦ (let inside : j < length (records_of s n) = stand j (In-here j places j refl) in absurd (omega (arith, inside, past.0)))
    ]
  where
    at_text : (b : Bool) (t : List ℕ) (o : Option (List ℕ)) → is_some o ≡ holds places i → is_some (cond b (Some t) o) ≡ (b || holds places i)
    at_text true t o e = refl
    at_text false t o e = e

    at_record : (r : Record) → record_at s n j ≡ Some r → is_some (text_named places (sequences_at s n places) i) ≡ holds places i → is_some (text_named (j ∷ places) (sequences_at s n (j ∷ places)) i) ≡ holds (j ∷ places) i
    at_record r at rest =
        ap (λ o. is_some (text_named (j ∷ places) (map (λ (x : Record). x.seq) (cons_option o (records_at s n places))) i)) at
        ∙ at_text (j == i) r.seq (text_named places (sequences_at s n places) i) rest

-- one entry

or_nothing : (a : Option Fate) → option_or a None ≡ a
or_nothing None = refl
or_nothing (Some x) = refl

-- a payload of kind 1 says the fate of the entry, where none stood before
one_fate_more : (b : Bool) (t : Option (List ℕ)) (held : Bool) (before : Option KeptFate) (found was : Option Fate) (f : Fate) → is_some t ≡ held → fate_only before ≡ option_or found was → ((b && held) ≡ true → is_none (option_or found was) ≡ true)
    → fate_only (option_or (only_at b (option_map (fate_kept f) t)) before) ≡ option_or found (option_or was (cond (b && held) (Some f) None))
one_fate_more false t held before found was f is same free = same ∙ ap (option_or found) (sym (or_nothing was))
one_fate_more true None held before found was f is same free = same ∙ ap (option_or found) (sym (or_nothing was)) ∙ ap (λ b. option_or found (option_or was (cond b (Some f) None))) is
one_fate_more true (Some text) held before found was f is same free = fresh found was (free (sym is)) ∙ ap (λ b. option_or found (option_or was (cond b (Some f) None))) is
  where
    fresh : (a b : Option Fate) → is_none (option_or a b) ≡ true → Some f ≡ option_or a (option_or b (Some f))
    fresh None None none = refl
    fresh None (Some x) none = cc
    fresh (Some x) b none = cc

-- the history

abbrev TellsFound : Setting → List Said → Type 0
TellsFound s old = (n i : ℕ) → fate_only (fate_said old n i) ≡ option_map (λ (f : FoundFate). f.fate) (found_fate s n i)

fate_stands : (s : Setting) (old : List Said) (h : List Entry) → Legal s h → TellsFound s old → (n i : ℕ) → fate_only (fate_said (filter_map (entry_said s) h ++ old) n i) ≡ fate s h n i
fate_stands s old [] legal found n i = found n i ∙ sym (or_nothing (option_map (λ (f : FoundFate). f.fate) (found_fate s n i)))
fate_stands s old (Gave by k places f line state m ∷ h) legal found n i =
    one_fate_more (k == n) (text_named places (sequences_at s k places) i) (holds places i) (fate_said (filter_map (entry_said s) h ++ old) n i) (option_map (λ (f : FoundFate). f.fate) (found_fate s n i)) (given h n i) f
    (text_there s k places (λ j member. (let came : j < came_count h k = names_came s h (Gave by k places f line state m) legal j member in let within : came_count h k ≤ length (records_of s k) = came_within s h legal.0 k in omega (arith, came, within))) i)
    (fate_stands s old h legal.0 found n i)
    (λ both. (let parts = and_parts (k == n) (holds places i) both in subst (λ j. is_none (fate s h j i) ≡ true) (eqb-true k n parts.0) (gave_open s h by k places f line state m legal i parts.1)))
fate_stands s old (Came k first count m ∷ h) legal found n i = fate_stands s old h legal.0 found n i
fate_stands s old (Began lane places closing m ∷ h) legal found n i = fate_stands s old h legal.0 found n i
fate_stands s old (Ended lane reply m ∷ h) legal found n i = fate_stands s old h legal.0 found n i
fate_stands s old (Tried lane places None t m ∷ h) legal found n i = fate_stands s old h legal.0 found n i
fate_stands s old (Tried lane places (Some w) t m ∷ h) legal found n i = fate_stands s old h legal.0 found n i
fate_stands s old (Closed lane w m ∷ h) legal found n i = fate_stands s old h legal.0 found n i
fate_stands s old (Replayed k places m ∷ h) legal found n i = fate_stands s old h legal.0 found n i
fate_stands s old (Shut m ∷ h) legal found n i = fate_stands s old h legal.0 found n i

-- payloads

one_again : (o : Option Said) (payloads : List (List ℕ)) → IfSome o IsSaid → filter_map said_of (cons_option (option_map payload_of o) payloads) ≡ cons_option o (filter_map said_of payloads)
one_again None payloads may = refl
one_again (Some said) payloads may = ap (λ o. cons_option o (filter_map said_of payloads)) (said_again said may)

saids_again : (s : Setting) (h : List Entry) → AllMayBeSaid s h → filter_map said_of (filter_map (entry_payload s) h) ≡ filter_map (entry_said s) h
saids_again s [] may = refl
saids_again s (e ∷ h) may = one_again (entry_said s e) (filter_map (entry_payload s) h) may.1 ∙ ap (cons_option (entry_said s e)) (saids_again s h may.0)

-- what the old payloads and those of a history say
history_said : (s : Setting) (h : List Entry) (old : List (List ℕ)) → AllMayBeSaid s h → history (reverse (old ++ history_payloads s h)) ≡ filter_map (entry_said s) h ++ history (reverse old)
history_said s h old may =
    ap (filter_map said_of) (reverse-append old (history_payloads s h))
    ∙ filter_map-append said_of (reverse (history_payloads s h)) (reverse old)
    ∙ ap (λ ps. filter_map said_of ps ++ history (reverse old)) (ap reverse (reversed (entry_payload s) h) ∙ reverse-reverse (filter_map (entry_payload s) h))
    ∙ ap (λ g. g ++ history (reverse old)) (saids_again s h may)

-- the laws

found_told : (s : Setting) (t : SaidLists) (g : List Said) → Tells t g → s.fates ≡ t.fates → TellsFound s g
found_told s t g tells same n i =
    ap fate_only (sym (tells.fates n i)) ∙ alike (fate_told t n i) ∙ sym (ap (λ fs. option_map (λ (f : FoundFate). f.fate) (fate_told (record t { fates = fs }) n i)) same)
  where
    alike : (o : Option FoundFate) → fate_only (option_map fate_of_found o) ≡ option_map (λ (f : FoundFate). f.fate) o
    alike None = refl
    alike (Some f) = refl

pub fates_kept : (s : Setting) (h : List Entry) (t : SaidLists) (old : List (List ℕ)) → Legal s h → AllMayBeSaid s h → Tells t (history (reverse old)) → s.fates ≡ t.fates → (n i : ℕ) → option_map (λ (k : KeptFate). k.fate) (fate_said (history (reverse (old ++ history_payloads s h))) n i) ≡ fate s h n i
fates_kept s h t old legal may tells same n i =
    ap (λ g. fate_only (fate_said g n i)) (history_said s h old may)
    ∙ fate_stands s (history (reverse old)) h legal (found_told s t (history (reverse old)) tells same) n i

there_too : (o : Option KeptFate) → is_some (fate_only o) ≡ is_some o
there_too None = refl
there_too (Some k) = refl

pub checkpoint_kept : (s : Setting) (h : List Entry) (t : SaidLists) (old : List (List ℕ)) → Legal s h → AllMayBeSaid s h → Tells t (history (reverse old)) → s.fates ≡ t.fates → (n : ℕ) → checkpoint s h n ≡ length (take_while (λ i. is_some (fate_said (history (reverse (old ++ history_payloads s h))) n i)) (came_places h n))
checkpoint_kept s h t old legal may tells same n =
    ap length (take_while_agree (has_fate s h n) (λ i. is_some (fate_said (history (reverse (old ++ history_payloads s h))) n i)) (came_places h n)
    (λ i member. ap is_some (sym (fates_kept s h t old legal may tells same n i)) ∙ there_too (fate_said (history (reverse (old ++ history_payloads s h))) n i)))
