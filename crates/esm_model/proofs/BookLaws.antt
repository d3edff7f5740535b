-- A history that is legal for threads is legal by its entries, and back.
use Rattle.std.proofs.Common.{◌≡◌, ℕ, zero, suc, ◌+◌, ◌≤◌, List, [], ◌∷◌, ◌++◌, length, refl, sym, ap, ◌∙◌, subst, inl, inr, Some, arith, append_assoc, length-append}
use Rattle.std.specs.Prelude.{◌==◌, slice_get}
use Rattle.std.specs.List.{All}
use Rattle.std.proofs.lemmas.List.{append-nil}
use Rattle.std.proofs.lemmas.Bool.{cases_Bool}
use Rattle.std.proofs.lemmas.List.Elements.{All-append}
use Rattle.std.proofs.lemmas.Option.{slice_get_cases}
use Rattle.esm_model.specs.Records.{Record}
use Rattle.esm_model.specs.declared.entry.Entry.{Entry}
use Rattle.esm_model.specs.declared.entry.Entry.TheVariants.{Came, Began, Ended, Gave, Tried, Closed, Replayed, Shut}
use Rattle.esm_model.specs.declared.setup.Told.{Told}
use Rattle.esm_model.specs.declared.setup.Setup.{Setup}
use Rattle.esm_model.specs.Setting.{Stream, Extends, over, records_in}
use Rattle.esm_model.specs.Entries.{came_count}
use Rattle.esm_model.specs.Step.{Legal}
use Rattle.esm_model.specs.Kept.{MayFollowAll, IsLegal}
use Rattle.esm_model.specs.Books.{entries_told, came_with, records_told, streams_told, setting_told, StandWith, IsOfStream, StreamMayFollow, stream_may_follow}
use Rattle.esm_model.proofs.Histories.{legal_before}
use Rattle.esm_model.proofs.Records.{SameRecords}
use Rattle.esm_model.proofs.Agreeing.{follow_agrees}
use Rattle.esm_model.proofs.TellingFacts.{entries-append, entries_more, records_in_told, told_extends, extends_then}

-- from threads to entries

-- its entries are legal over all lists that go on from its records
abbrev LegalOn : Setup → List Told → Type 0
LegalOn setup history = (streams : List Stream) → Extends (streams_told history) streams → Legal (over (setting_told setup history) streams) (entries_told history)

legal_after : (setup : Setup) (history more : List Told) → LegalOn setup history → MayFollowAll (stream_may_follow setup) history more → LegalOn setup (history ++ more)
legal_after setup history [] legal may = subst (LegalOn setup) (sym (append-nil history)) legal
legal_after setup history (t ∷ more) legal may = subst (LegalOn setup) (append_assoc history (t ∷ []) more) (legal_after setup (history ++ t ∷ []) more one_more may.1)
  where
    one_more : LegalOn setup (history ++ t ∷ [])
    one_more streams goes =
        subst (Legal (over (setting_told setup history) streams)) (sym (entries_more history t))
        (legal streams (extends_then (streams_told history) (streams_told (history ++ t ∷ [])) streams (told_extends history (t ∷ [])) goes), (may.0.later, may.0.row streams goes))

pub kept_legal : (setup : Setup) (history : List Told) (streams : List Stream) → IsLegal (stream_may_follow setup) history → Extends (streams_told history) streams → Legal (over (setting_told setup history) streams) (entries_told history)
kept_legal setup history streams kept goes = legal_after setup [] history (λ streams goes. tt) kept streams goes

-- the records that came are those told

count-append : (later before : List Entry) (n : ℕ) → came_count (later ++ before) n ≡ came_count later n + came_count before n
count-append [] before n = omega arith
count-append (Came k first count m ∷ later) before n =
    let rest : came_count (later ++ before) n ≡ came_count later n + came_count before n = count-append later before n in
    elim (cases_Bool (k == n)) [ inl is ↦ rw is (omega (arith, rest)) | inr other ↦ rw other rest ]
count-append (Began lane places closing m ∷ later) before n = count-append later before n
count-append (Ended lane reply m ∷ later) before n = count-append later before n
count-append (Gave by k places f line state m ∷ later) before n = count-append later before n
count-append (Tried lane places closing t m ∷ later) before n = count-append later before n
count-append (Closed lane w m ∷ later) before n = count-append later before n
count-append (Replayed k places m ∷ later) before n = count-append later before n
count-append (Shut m ∷ later) before n = count-append later before n

count_one : (e : Entry) (rs : List Record) (n : ℕ) → StandWith e rs → came_count (e ∷ []) n ≡ length (came_with n rs e)
count_one (Came k first count m) rs n stand =
    elim (cases_Bool (k == n)) [ inl is ↦ rw is (omega (arith, stand.number)) | inr other ↦ rw other refl ]
count_one (Began lane places closing m) rs n stand = refl
count_one (Ended lane reply m) rs n stand = refl
count_one (Gave by k places f line state m) rs n stand = refl
count_one (Tried lane places closing t m) rs n stand = refl
count_one (Closed lane w m) rs n stand = refl
count_one (Replayed k places m) rs n stand = refl
count_one (Shut m) rs n stand = refl

first_of_all : (t : Told) (ts : List Told) → All IsOfStream (t ∷ ts) → IsOfStream t
first_of_all t ts all = all 0 t (omega arith)

rest_of_all : (t : Told) (ts : List Told) → All IsOfStream (t ∷ ts) → All IsOfStream ts
rest_of_all t ts all k d within = all (suc k) d (omega (arith, within))

pub count_told : (history : List Told) (n : ℕ) → All IsOfStream history → came_count (entries_told history) n ≡ length (records_told n history)
count_told [] n all = refl
count_told (t ∷ history) n all =
    let rest : came_count (entries_told history) n ≡ length (records_told n history) = count_told history n (rest_of_all t history all) in
    let one : came_count (t.entry ∷ []) n ≡ length (came_with n t.records t.entry) = count_one t.entry t.records n (first_of_all t history all).records in
    let parts : came_count (entries_told (t ∷ history)) n ≡ came_count (entries_told history) n + came_count (t.entry ∷ []) n
    = ap (λ es. came_count es n) (entries-append (t ∷ []) history) ∙ count-append (entries_told history) (t.entry ∷ []) n in
    let whole : length (records_told n (t ∷ history)) ≡ length (came_with n t.records t.entry) + length (records_told n history)
    = length-append (came_with n t.records t.entry) (records_told n history) in
    omega (arith, rest, one, parts, whole)

-- two lists that go on from the records told agree on those that came
told_agree : (setup : Setup) (history : List Told) (streams after : List Stream) → All IsOfStream history → Extends (streams_told history) streams → Extends (streams_told history) after → SameRecords (over (setting_told setup history) streams) after (entries_told history)
told_agree setup history streams after all one other n i came =
    elim (slice_get_cases (records_told n history) i).1 [
      | inl there ↦ (
          let at : slice_get (records_in (streams_told history) n) i ≡ Some there.0 = ap (λ rs. slice_get rs i) (records_in_told history n) ∙ there.2 in
          other n i there.0 at ∙ sym (one n i there.0 at))
      | inr past ↦ (
          let out : length (records_told n history) ≤ i = past.0 in
          let all_came : came_count (entries_told history) n ≡ length (records_told n history) = count_told history n all in
          absurd (omega (arith, came, out, all_came)))
    ]

-- from entries to threads

alone : (t : Told) → IsOfStream t → All IsOfStream (t ∷ [])
alone t is zero d within = is
alone t is (suc k) d within = absurd (omega (arith, within))

-- the last entry of a legal history, over each list that goes on from the records told
may_follow_told : (setup : Setup) (streams : List Stream) (seen : List Told) (t : Told) → All IsOfStream (seen ++ t ∷ []) → IsOfStream t → Extends (streams_told (seen ++ t ∷ [])) streams → Legal (over (setting_told setup seen) streams) (t.entry ∷ entries_told seen) → StreamMayFollow setup seen t
may_follow_told setup streams seen t all is goes legal = record {
  of_stream = is;
  later = legal.1.0;
  row = λ after onward. follow_agrees (over (setting_told setup seen) streams) after (entries_told seen) t.entry
      (subst (SameRecords (over (setting_told setup seen) streams) after) (entries_more seen t) (told_agree setup (seen ++ t ∷ []) streams after all goes onward)) legal.0 legal.1.1;
}

follow_all : (setup : Setup) (streams : List Stream) (seen more : List Told) → All IsOfStream seen → All IsOfStream more → Extends (streams_told (seen ++ more)) streams → Legal (over (setting_told setup seen) streams) (entries_told (seen ++ more)) → MayFollowAll (stream_may_follow setup) seen more
follow_all setup streams seen [] before after goes legal = tt
follow_all setup streams seen (t ∷ more) before after goes legal =
    let s = over (setting_told setup seen) streams in
    let now = seen ++ t ∷ [] in
    let all : All IsOfStream (seen ++ t ∷ []) = All-append IsOfStream seen (t ∷ []) before (alone t (first_of_all t more after)) in
    let regrouped : seen ++ t ∷ more ≡ (seen ++ t ∷ []) ++ more = sym (append_assoc seen (t ∷ []) more) in
    let onward : Extends (streams_told ((seen ++ t ∷ []) ++ more)) streams = subst (λ h. Extends (streams_told h) streams) regrouped goes in
    let whole : Legal (over (setting_told setup seen) streams) (entries_told ((seen ++ t ∷ []) ++ more)) = subst (λ h. Legal (over (setting_told setup seen) streams) (entries_told h)) regrouped legal in
    let legal_now : Legal (over (setting_told setup seen) streams) (entries_told (seen ++ t ∷ [])) = legal_before s (entries_told more) (entries_told now) (subst (Legal s) (entries-append now more) whole) in (
      may_follow_told setup streams seen t all (first_of_all t more after) (extends_then (streams_told now) (streams_told (now ++ more)) streams (told_extends now more) onward) (subst (Legal s) (entries_more seen t) legal_now),
      follow_all setup streams now more all (rest_of_all t more after) onward whole,
    )

pub legal_kept : (setup : Setup) (history : List Told) (streams : List Stream) → All IsOfStream history → Extends (streams_told history) streams → Legal (over (setting_told setup history) streams) (entries_told history) → IsLegal (stream_may_follow setup) history
legal_kept setup history streams all goes legal = follow_all setup streams [] history (λ k d within. absurd (omega (arith, within))) all goes legal

-- what is legal for threads is told as a stream's

follow_told : (setup : Setup) (seen more : List Told) → MayFollowAll (stream_may_follow setup) seen more → All IsOfStream more
follow_told setup seen [] may k d within = absurd (omega (arith, within))
follow_told setup seen (t ∷ more) may zero d within = may.0.of_stream
follow_told setup seen (t ∷ more) may (suc k) d within = follow_told setup (seen ++ t ∷ []) more may.1 k d (omega (arith, within))

pub kept_told : (setup : Setup) (history : List Told) → IsLegal (stream_may_follow setup) history → All IsOfStream history
kept_told setup history kept = follow_told setup [] history kept
