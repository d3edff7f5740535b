-- No payload of a replay is bad for a book. Only this crate's proofs cite this.
use Rattle.std.proofs.Common.{◌≡◌, ℕ, ◌<◌, Bool, true, false, not, ◌&&◌, List, [], ◌∷◌, ◌++◌, length, map, refl, sym, ap, ◌∙◌, subst, inl, inr, arith, Option, Some, None}
use Rattle.std.specs.Prelude.{nat_eq, filter_map, option_map, reverse, slice_get, unwrap_or, IfSome}
use Rattle.std.specs.Option.{option_or}
use Rattle.std.specs.List.{cons_option}
use Rattle.std.specs.Cmp.Lexicographic.{pointwise}
use Rattle.std.proofs.lemmas.List.{reverse-append, reverse-reverse}
use Rattle.std.proofs.lemmas.Bool.{and_parts, and_from, or_from}
use Rattle.std.proofs.lemmas.Option.{slice_get_cases}
use Rattle.esm_model.specs.declared.config.Config.{Config}
use Rattle.esm_model.specs.Records.{Record}
use Rattle.esm_model.specs.declared.entry.Entry.{Entry}
use Rattle.esm_model.specs.declared.entry.Entry.TheVariants.{Came, Began, Ended, Gave, Tried, Closed, Replayed, Shut}
use Rattle.esm_model.specs.declared.setup.FoundFate.{FoundFate}
use Rattle.esm_model.specs.declared.setup.FoundTries.{FoundTries}
use Rattle.esm_model.specs.Setting.{Setting, record_at, records_at, records_of, sequences_at}
use Rattle.esm_model.proofs.Lists.{In, In-here, In-there}
use Rattle.esm_journal_record.specs.declared.said.Said.{Said}
use Rattle.esm_journal_record.specs.declared.said.Said.TheVariants as said
use Rattle.esm_journal_record.specs.Payload.{payload_of, IsSaid}
use Rattle.esm_journal_record.specs.EntryPayload.{entry_said, entry_payload, history_payloads, AllMayBeSaid}
use Rattle.esm_journal_record.proofs.Payloads.{said_again}
use Rattle.esm_journal_record.proofs.EntryFacts.{reversed}
use Rattle.esm_journal_state.specs.Meaning.{any_named, are_good, fate_said, history, is_bad, is_failure, is_good, is_good_said, is_no_replay, Known, known, replayed_said}
use Rattle.esm_journal_state.specs.SaidLists.{SaidLists, fate_told, tries_told, is_replay_told}
use Rattle.esm_journal_state.specs.Tells.{Tells, fate_of_found}
use Rattle.esm_replay.specs.Coming.{other_text, NoneDiffers}
use Rattle.esm_replay.specs.Records.{of_shard, setting_with}
use Rattle.esm_replay.proofs.Gathering.{records_are}
use Rattle.esm_replay.proofs.Unchanged.{none_differs}
use Rattle.esm_replay_model.specs.declared.range.Range.{Range}
use Rattle.esm_replay_model.specs.ReplaySetting.{ReplaySetting, replay_config, is_given_up, is_in_lines, is_found_replayed, is_in_ranges, is_named}
use Rattle.esm_replay_model.specs.ReplayReport.{is_replayed}
use Rattle.esm_replay_model.specs.ReplayRun.{IsReplay}
use Rattle.esm_replay_model.proofs.Runs.{replayed_once}
use Rattle.esm_replay_model.proofs.Sayings.{SaysOf, says_of, history_says}
use Rattle.esm_replay_life.specs.ReplayLife.{ReplayRun, IsSettingOver, IsReplayRunOver}
use Rattle.esm_replay_life.proofs.Fronts.{Recorded, recorded_of}

-- a named record stands in its list

named_stands : (s : ReplaySetting) (n i : ℕ) → is_named s n i ≡ true → i < length (records_of s.base n)
named_stands s n i named =
    let lines = and_parts (is_in_lines s n i) (not (is_found_replayed s n i)) (and_parts (is_given_up s n i) (is_in_lines s n i && not (is_found_replayed s n i)) named).1 in
    elim (slice_get_cases (records_of s.base n) i).1 [
      | inl there ↦ there.1
      | inr past ↦
          (let none : is_in_lines s n i ≡ false = ap (λ (o : Option Record). unwrap_or (option_map (λ (r : Record). is_in_ranges s.ranges n r.seq) o) false) past.1 in
          absurd (let clash : true ≡ false = sym lines.0 ∙ none in cc))
    ]

-- none of the places with their records' texts fails
none_named : (s : Setting) (n : ℕ) (fails : ℕ → List ℕ → Bool) (places : List ℕ) → ((i : ℕ) → In places i → i < length (records_of s n)) → ((i : ℕ) (r : Record) → In places i → record_at s n i ≡ Some r → fails i r.seq ≡ false)
    → any_named fails places (sequences_at s n places) ≡ false
none_named s n fails [] stand passes = refl
none_named s n fails (j ∷ places) stand passes =
    elim (slice_get_cases (records_of s n) j).1 [
      | inl there ↦ ap (λ (o : Option Record). any_named fails (j ∷ places) (map (λ (x : Record). x.seq) (cons_option o (records_at s n places)))) there.2
          ∙ or_from (fails j there.0.seq) (any_named fails places (sequences_at s n places)) (passes j there.0 (In-here j places j refl) there.2)
          (none_named s n fails places (λ i member. stand i (In-there j places i member)) (λ i r member at. passes i r (In-there j places i member) at))
      | inr past ↦ (let inside : j < length (records_of s n) = stand j (In-here j places j refl) in absurd (omega (arith, inside, past.0)))
    ]

-- the payloads of the content, the newest first
content_reversed : (s : Setting) (h : List Entry) (old : List (List ℕ)) → reverse (old ++ history_payloads s h) ≡ filter_map (entry_payload s) h ++ reverse old
content_reversed s h old =
    reverse-append old (history_payloads s h)
    ∙ ap (λ (ps : List (List ℕ)). ps ++ reverse old) (ap reverse (reversed (entry_payload s) h) ∙ reverse-reverse (filter_map (entry_payload s) h))

-- a record may be replayed that failed for good, was not replayed, and has the text that was kept of its fate

abbrev is_failed : Option FoundFate → Bool
is_failed o = unwrap_or (option_map (λ (f : FoundFate). is_failure f.fate) o) false

same_text : (kept text : List ℕ) (rest : Option (List ℕ)) → option_or (other_text text (Some kept)) rest ≡ None → pointwise nat_eq kept text ≡ true
same_text kept text rest same = by_test (pointwise nat_eq kept text) refl
  where
    by_test : (b : Bool) → pointwise nat_eq kept text ≡ b → pointwise nat_eq kept text ≡ true
    by_test true is = is
    by_test false is = absurd (let clash = rw is at same in cc)

judged : (o : Option FoundFate) (k : Known) (n i : ℕ) (text : List ℕ) (rest : Option (List ℕ)) → is_failed o ≡ true → k.fates n i ≡ option_map fate_of_found o → k.replays n i ≡ false
    → option_or (other_text text (option_map (λ (f : FoundFate). f.text) o)) rest ≡ None → is_no_replay k n i text ≡ false
judged None k n i text rest failed fates replays same = absurd (cc)
judged (Some f) k n i text rest failed fates replays same =
    let own : pointwise nat_eq f.text text ≡ true = same_text f.text text rest same in
    rw (fates, replays, failed, own) refl

not_true : (b : Bool) → not b ≡ true → b ≡ false
not_true true is = absurd (cc)
not_true false is = refl

module _ (told : SaidLists) (config : Config) (calls : ℕ) (ranges : List Range) (came : List Record) (old : List (List ℕ)) (tells : Tells told (history (reverse old))) (none : NoneDiffers told came) where
  abbrev s : ReplaySetting
  s = setting_with config calls told ranges came

  -- what is said after the history
  abbrev said_by : List Entry → List Said
  said_by h = filter_map (entry_said s.base) h ++ history (reverse old)

  may_be_replayed : (h : List Entry) (n i : ℕ) (r : Record) → IsReplay s h → is_named s n i ≡ true → is_replayed h n i ≡ false → record_at s.base n i ≡ Some r → is_no_replay (known (said_by h)) n i r.seq ≡ false
  may_be_replayed h n i r run named fresh at =
      let given = and_parts (is_given_up s n i) (is_in_lines s n i && not (is_found_replayed s n i)) named in
      let found : is_replay_told told n i ≡ false = not_true (is_found_replayed s n i) (and_parts (is_in_lines s n i) (not (is_found_replayed s n i)) given.1).1 in
      let says : SaysOf s h (history (reverse old)) n i = says_of s h (history (reverse old)) n i run in
      let fates : fate_said (said_by h) n i ≡ option_map fate_of_found (fate_told told n i) = says.fates ∙ sym (tells.fates n i) in
      let replays : replayed_said (said_by h) n i ≡ false = says.replays ∙ or_from (replayed_said (history (reverse old)) n i) (is_replayed h n i) (sym (tells.replays n i) ∙ found) fresh in
      let there : slice_get (of_shard n came) i ≡ Some r = ap (λ (rs : List Record). slice_get rs i) (sym (records_are n came)) ∙ at in
      judged (fate_told told n i) (known (said_by h)) n i r.seq (other_text r.seq (option_map (λ (f : FoundTries). f.text) (tries_told told n i))) given.0 fates replays (none n i r there)

  good_replayed : (shard : ℕ) (places : List ℕ) (m : ℕ) (h : List Entry) → IsReplay s (Replayed shard places m ∷ h) → is_bad (known (said_by h)) (said.Replayed shard m places (sequences_at s.base shard places)) ≡ false
  good_replayed shard places m h run =
      let once = replayed_once s (Replayed shard places m ∷ h) run [] h shard places m refl in
      none_named s.base shard (is_no_replay (known (said_by h)) shard) places (λ i member. named_stands s shard i (once i member).0) (λ i r member at. may_be_replayed h shard i r run.0 (once i member).0 (once i member).1 at)

  good_payload : (h : List Entry) (o : Option Said) → AllMayBeSaid s.base h → IfSome o IsSaid → ((one : Said) → o ≡ Some one → is_bad (known (said_by h)) one ≡ false)
      → are_good (filter_map (entry_payload s.base) h ++ reverse old) ≡ true → are_good (cons_option (option_map payload_of o) (filter_map (entry_payload s.base) h) ++ reverse old) ≡ true
  good_payload h None may is good before = before
  good_payload h (Some one) may is good before =
      let said_now : history (filter_map (entry_payload s.base) h ++ reverse old) ≡ said_by h =
      ap history (sym (content_reversed s.base h old)) ∙ history_says s.base h old may in
      and_from (are_good (filter_map (entry_payload s.base) h ++ reverse old)) (is_good (history (filter_map (entry_payload s.base) h ++ reverse old)) (payload_of one)) before
      (ap (λ (x : Option Said). is_good_said (history (filter_map (entry_payload s.base) h ++ reverse old)) x) (said_again one is)
      ∙ (ap (λ (g : List Said). not (is_bad (known g) one)) said_now ∙ ap not (good one refl)))

  good_entry : (h : List Entry) (e : Entry) (one : Said) → IsReplay s (e ∷ h) → entry_said s.base e ≡ Some one → is_bad (known (said_by h)) one ≡ false
  good_entry h (Replayed shard places m) one run is =
      let same : said.Replayed shard m places (sequences_at s.base shard places) ≡ one = cc in
      subst (λ (x : Said). is_bad (known (said_by h)) x ≡ false) same (good_replayed shard places m h run)
  good_entry h (Began lane places None m) one run is = absurd (cc)
  good_entry h (Began lane places (Some window) m) one run is = absurd run.1.1
  good_entry h (Ended lane reply m) one run is = absurd (cc)
  good_entry h (Came shard first count m) one run is = absurd run.1.1
  good_entry h (Gave by shard places f line state m) one run is = absurd run.1.1
  good_entry h (Tried lane places closing tries m) one run is = absurd run.1.1
  good_entry h (Closed lane window m) one run is = absurd run.1.1
  good_entry h (Shut m) one run is = absurd run.1.1

  good_all : (h : List Entry) → are_good (reverse old) ≡ true → IsReplay s h → AllMayBeSaid s.base h → are_good (filter_map (entry_payload s.base) h ++ reverse old) ≡ true
  good_all [] good run may = good
  good_all (e ∷ h) good run may = good_payload h (entry_said s.base e) may.0 may.1 (λ one is. good_entry h e one run is) (good_all h good run.0 may.0)

abbrev StaysGood : List (List ℕ) → List Entry → ReplaySetting → Type 0
StaysGood old h s = IsReplay s h → AllMayBeSaid s.base h → are_good (filter_map (entry_payload s.base) h ++ reverse old) ≡ true

-- a content whose payloads are good goes on with good ones
pub stays_good : (r : ReplayRun) (old : List (List ℕ)) → are_good (reverse old) ≡ true → IsReplayRunOver r old → are_good (reverse (old ++ r.left)) ≡ true
stays_good r old good is =
    let kept : Recorded r = recorded_of r old is in
    let over : IsSettingOver r.setting old = is.is_setting in
    let all : StaysGood old kept.recorded r.setting =
    subst (StaysGood old kept.recorded) (sym over.is) (λ run may. good_all over.told (replay_config over.config) over.calls over.ranges over.came old over.tells (none_differs over.told over.came over.unchanged) kept.recorded good run may) in
    ap (λ (ps : List (List ℕ)). are_good (reverse (old ++ ps))) kept.left
    ∙ (ap are_good (content_reversed r.setting.base kept.recorded old) ∙ all kept.run kept.may)
