-- What the payloads of a history say, entry by entry. Only this crate's proofs cite this.
use Rattle.std.proofs.Common.{◌≡◌, ℕ, ◌<◌, ◌≤◌, Bool, true, false, cond, ◌||◌, List, [], ◌∷◌, ◌++◌, length, map, refl, sym, ap, ◌∙◌, subst, inl, inr, Option, Some, None, arith}
use Rattle.std.specs.Prelude.{◌==◌, filter_map, reverse, option_map, is_some, IfSome, if◌then◌else◌}
use Rattle.std.specs.List.{cons_option}
use Rattle.std.proofs.lemmas.List.{reverse-append, reverse-reverse}
use Rattle.std.proofs.lemmas.List.Elements.{filter_map-append}
use Rattle.std.proofs.lemmas.Bool.{cases_Bool, eqb-true}
use Rattle.std.proofs.lemmas.Option.{same_Some, slice_get_cases}
use Rattle.esm_model.specs.Records.{Record}
use Rattle.esm_model.specs.declared.entry.Entry.{Entry}
use Rattle.esm_model.specs.Setting.{Setting, record_at, records_of, records_at, sequences_at}
use Rattle.esm_model.specs.Entries.{holds, came_count}
use Rattle.esm_model.specs.Step.{Legal}
use Rattle.esm_model.proofs.Lists.{In, In-here, In-there}
use Rattle.esm_model.proofs.Records.{Covered, came_within}
use Rattle.esm_journal_record.specs.declared.said.Said.{Said}
use Rattle.esm_journal_record.specs.Payload.{payload_of, IsSaid}
use Rattle.esm_journal_record.specs.Parsing.{said_of}
use Rattle.esm_journal_record.specs.EntryPayload.{entry_said, entry_payload, history_payloads, AllMayBeSaid}
use Rattle.esm_journal_record.proofs.Payloads.{said_again}
use Rattle.esm_journal_record.proofs.EntryFacts.{reversed}
use Rattle.esm_journal_state.specs.Meaning.{text_named, history}
use Rattle.esm_history.specs.Content.{content_after}

-- what the history says, the newest first
abbrev pub saids : Setting → List Entry → List Said
saids s h = filter_map (entry_said s) h

one_again : (o : Option Said) (payloads : List (List ℕ)) → IfSome o IsSaid → filter_map said_of (cons_option (option_map payload_of o) payloads) ≡ cons_option o (filter_map said_of payloads)
one_again None payloads may = refl
one_again (Some said) payloads may = ap (λ o. cons_option o (filter_map said_of payloads)) (said_again said may)

pub saids_again : (s : Setting) (h : List Entry) → AllMayBeSaid s h → filter_map said_of (filter_map (entry_payload s) h) ≡ filter_map (entry_said s) h
saids_again s [] may = refl
saids_again s (e ∷ h) may = one_again (entry_said s e) (filter_map (entry_payload s) h) may.1 ∙ ap (cons_option (entry_said s e)) (saids_again s h may.0)

-- the payloads of the content, the newest first
pub content_reversed : (s : Setting) (h : List Entry) (old : List (List ℕ)) → reverse (content_after s h old) ≡ filter_map (entry_payload s) h ++ reverse old
content_reversed s h old =
    reverse-append old (history_payloads s h)
    ∙ ap (λ ps. ps ++ reverse old) (ap reverse (reversed (entry_payload s) h) ∙ reverse-reverse (filter_map (entry_payload s) h))

pub content_said : (s : Setting) (h : List Entry) (old : List (List ℕ)) → AllMayBeSaid s h → history (reverse (content_after s h old)) ≡ filter_map (entry_said s) h ++ history (reverse old)
content_said s h old may =
    ap (filter_map said_of) (content_reversed s h old)
    ∙ filter_map-append said_of (filter_map (entry_payload s) h) (reverse old)
    ∙ ap (λ g. g ++ history (reverse old)) (saids_again s h may)

-- texts

-- places that came stand in the list
pub covered_stand : (s : Setting) (h : List Entry) (n : ℕ) (places : List ℕ) → Legal s h → Covered h n places → (i : ℕ) → In places i → i < length (records_of s n)
covered_stand s h n places legal covered i member =
    (let came : i < came_count h n = covered i member in let within : came_count h n ≤ length (records_of s n) = came_within s h legal n in omega (arith, came, within))

-- a text is named with each of the places
pub text_there : (s : Setting) (n : ℕ) (places : List ℕ) → ((i : ℕ) → In places i → i < length (records_of s n)) → (i : ℕ) → is_some (text_named places (sequences_at s n places) i) ≡ holds places i
text_there s n [] stand i = refl
text_there s n (j ∷ places) stand i =
    elim (slice_get_cases (records_of s n) j).1 [
      | inl there ↦ at_record there.0 there.2 (text_there s n places (λ k member. stand k (In-there j places k member)) i)
      | inr past ↦ (let inside : j < length (records_of s n) = stand j (In-here j places j refl) in absurd (omega (arith, inside, past.0)))
    ]
  where
    at_text : (b : Bool) (t : List ℕ) (o : Option (List ℕ)) → is_some o ≡ holds places i → is_some (cond b (Some t) o) ≡ (b || holds places i)
    at_text true t o e = refl
    at_text false t o e = e

    at_record : (r : Record) → record_at s n j ≡ Some r → is_some (text_named places (sequences_at s n places) i) ≡ holds places i → is_some (text_named (j ∷ places) (sequences_at s n (j ∷ places)) i) ≡ holds (j ∷ places) i
    at_record r at rest =
        ap (λ o. is_some (text_named (j ∷ places) (map (λ (x : Record). x.seq) (cons_option o (records_at s n places))) i)) at
        ∙ at_text (j == i) r.seq (text_named places (sequences_at s n places) i) rest

-- and it is the sequence number of the record
pub text_is : (s : Setting) (n : ℕ) (places : List ℕ) → ((i : ℕ) → In places i → i < length (records_of s n)) → (i : ℕ) (t : List ℕ) (r : Record) → text_named places (sequences_at s n places) i ≡ Some t → record_at s n i ≡ Some r → t ≡ r.seq
text_is s n [] stand i t r named at = cc
text_is s n (j ∷ places) stand i t r named at =
    elim (slice_get_cases (records_of s n) j).1 [
      | inl there ↦ at_record (λ now. text_is s n places (λ k member. stand k (In-there j places k member)) i t r now at) there.0 there.2
      | inr past ↦ (let inside : j < length (records_of s n) = stand j (In-here j places j refl) in absurd (omega (arith, inside, past.0)))
    ]
  where
    at_record : (text_named places (sequences_at s n places) i ≡ Some t → t ≡ r.seq) → (q : Record) → record_at s n j ≡ Some q → t ≡ r.seq
    at_record further q at_j =
        let now : (if j == i then Some q.seq else text_named places (sequences_at s n places) i) ≡ Some t =
        sym (ap (λ o. text_named (j ∷ places) (map (λ (x : Record). x.seq) (cons_option o (records_at s n places))) i) at_j) ∙ named in
        elim (cases_Bool (j == i)) [
          | inl same ↦ (
              let mine : q.seq ≡ t = same_Some q.seq t (rw same at now) in
              let there : record_at s n i ≡ Some q = subst (λ k. record_at s n k ≡ Some q) (eqb-true j i same) at_j in
              sym mine ∙ ap (λ (x : Record). x.seq) (same_Some q r (sym there ∙ at)))
          | inr other ↦ further (rw other at now)
        ]
