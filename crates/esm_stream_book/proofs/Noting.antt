-- How an entry that is noted ends.
use Rattle.std.proofs.Common.{◌≡◌, ℕ, ◌≤◌, true, false, List, [], ◌∷◌, ◌++◌, map, reverse, refl, sym, ap, ap₂, ◌∙◌, subst, arith, append-nil, Option, None}
use Rattle.std.specs.List.{All}
use Rattle.std.proofs.lemmas.List.Elements.{All-push}
use Rattle.esm_model.specs.declared.moment.TheConstants.{MAX_MOMENT}
use Rattle.esm_model.specs.Records.{Record}
use Rattle.esm_model.specs.declared.book.Job.{Job}
use Rattle.esm_model.specs.declared.book.Trouble.{Trouble}
use Rattle.esm_model.specs.declared.entry.Reply.{Reply}
use Rattle.esm_model.specs.declared.entry.Entry.{Entry}
use Rattle.esm_model.specs.declared.entry.Entry.TheVariants.{Ended, Shut}
use Rattle.esm_model.specs.declared.setup.Told.{Told}
use Rattle.esm_model.specs.Setting.{Setting, Stream, over}
use Rattle.esm_model.specs.Entries.{is_shut, last_moment, shards_that_came}
use Rattle.esm_model.specs.Step.{IsLater}
use Rattle.esm_model.specs.Books.{entries_told, came_with, records_told, stream_told, streams_told, IsOfStream}
use Rattle.esm_model.proofs.TellingFacts.{entries_more, records-append}
use Rattle.esm_book.specs.Hand.{is_end}
use Rattle.esm_book.specs.State.{in_hand, in_delivery}
use Rattle.esm_journal_record.specs.EntryPayload.{entry_payload}
use Rattle.esm_ledger.specs.Ledger.{LegalOver}
use Rattle.esm_outcome.specs.Ending.{SettledOver}
use Rattle.esm_stream_core.specs.CoreView.{full_setting, MayFollowFront}
use Rattle.esm_stream_core.proofs.Hand.{follows_on}
use Rattle.esm_stream_core.proofs.Settling.{shut_legal, shut_settled}
use Rattle.esm_stream_core.specs.Calls.{moment_for, IsRunningJob}
use Rattle.esm_stream_core.specs.declared.decisions.StreamEntry.{StreamEntry}
use Rattle.esm_stream_core.specs.Told.{stream_entries, history_of, owed_of, opened, told_of}
use Rattle.esm_stream_book.specs.Books.{BookState}
use Rattle.esm_stream_book.specs.Calls.{AddedOne}
use Rattle.esm_stream_book.specs.Keeping.{IsSound}
use Rattle.esm_stream_book.specs.Carried.{Noted}
use Rattle.esm_stream_book.proofs.Entries.{entry_in, past_grows, told_grows, owed_entries}
use Rattle.esm_stream_book.proofs.Going.{opened_so}

later_for : (h : List Entry) (moment : ℕ) → last_moment h ≤ MAX_MOMENT → IsLater h (moment_for h moment)
later_for h moment within = record { not_back = omega arith; within = omega arith }

-- an entry with which no records stand
abbrev alone : Entry → Told
alone e = record { entry = e; records = []; messages = [] }

-- that brings none, of any shard
record BringsNothing (e : Entry) : Type 0 where
  none : (n : ℕ) → came_with n [] e ≡ []
  shards : (h : List Entry) → shards_that_came (e ∷ h) ≡ shards_that_came h

streams_same : (history : List Told) (e : Entry) → BringsNothing e → (ns : List ℕ) → map (stream_told (history ++ alone e ∷ [])) ns ≡ map (stream_told history) ns
streams_same history e brings [] = refl
streams_same history e brings (n ∷ ns) =
    let records : records_told n (history ++ alone e ∷ []) ≡ records_told n history =
    records-append n history (alone e ∷ [])
    ∙ (ap (λ (rs : List Record). records_told n history ++ (rs ++ [])) (brings.none n) ∙ append-nil (records_told n history)) in
    let first : stream_told (history ++ alone e ∷ []) n ≡ stream_told history n = ap (λ (rs : List Record). record { shard = n; records = rs }) records in
    ap₂ (λ (t : Stream) (ts : List Stream). t ∷ ts) first (streams_same history e brings ns)

streams_stay : (history : List Told) (e : Entry) → BringsNothing e → streams_told (history ++ alone e ∷ []) ≡ streams_told history
streams_stay history e brings =
    ap (λ (h : List Entry). map (stream_told (history ++ alone e ∷ [])) (shards_that_came h)) (entries_more history (alone e))
    ∙ (ap (map (stream_told (history ++ alone e ∷ []))) (brings.shards (entries_told history))
    ∙ streams_same history e brings (shards_that_came (entries_told history)))

-- the entry was put before the history of the core, and nothing else changed
pub record IsNoted {D T : Type 0} (old new : BookState D T) (X : List StreamEntry) (e : Entry) : Type 0 where
  pub history : history_of new.core ≡ reverse X ++ history_of old.core
  pub origin : opened new.core ≡ opened old.core
  pub entries : X ≡ stream_entries (full_setting old.core) (e ∷ [])
  pub owed : owed_of new.core ≡ owed_of old.core
  pub rest : new ≡ record old { core = new.core }
  pub records : new.core.setting.streams ≡ streams_told (told_of new.core)

module _ {D T : Type 0} (old new : BookState D T) (X : List StreamEntry) (e : Entry) where
  told_one : IsNoted old new X e → stream_entries (full_setting old.core) (e ∷ []) ≡ stream_entries old.core.setting (e ∷ []) → map (λ (x : StreamEntry). x.told) (stream_entries old.core.setting (e ∷ [])) ≡ alone e ∷ [] → told_of new.core ≡ told_of old.core ++ alone e ∷ []
  told_one n alike plain =
      told_grows old.core new.core old.core.setting (e ∷ []) X n.history (n.entries ∙ alike) ∙ ap (λ (ts : List Told). told_of old.core ++ ts) plain

  setting_stays : IsNoted old new X e → BringsNothing e → told_of new.core ≡ told_of old.core ++ alone e ∷ [] → IsSound old → new.core.setting ≡ old.core.setting
  setting_stays n brings told sound =
      opened_so new.core old.core n.origin
      ∙ ap (over old.core.setting) (n.records ∙ (ap streams_told told ∙ (streams_stay (told_of old.core) e brings ∙ sym sound.records)))

  added_one : IsNoted old new X e → stream_entries (full_setting old.core) (e ∷ []) ≡ stream_entries old.core.setting (e ∷ []) → new.core.setting ≡ old.core.setting → AddedOne old new e
  added_one n alike setting = record {
    past = past_grows old.core new.core old.core.setting (e ∷ []) X n.history (n.entries ∙ alike);
    told = told_grows old.core new.core old.core.setting (e ∷ []) X n.history (n.entries ∙ alike);
    setting = setting;
    owed = sym (owed_entries new.core) ∙ (ap (map entry_in) n.owed ∙ owed_entries old.core);
    rest = n.rest;
  }

  noted_so : IsNoted old new X e → stream_entries (full_setting old.core) (e ∷ []) ≡ stream_entries old.core.setting (e ∷ []) → map (λ (x : StreamEntry). x.told) (stream_entries old.core.setting (e ∷ [])) ≡ alone e ∷ [] → BringsNothing e → IsOfStream (alone e) → IsSound old
      → LegalOver old.core.setting (e ∷ old.core.past) → (old.trouble ≡ None → SettledOver old.core.setting (e ∷ old.core.past)) → is_end e ≡ true → Noted old new e
  noted_so n alike plain brings is sound legal settled ends =
      let told = told_one n alike plain in
      let same = setting_stays n brings told sound in
      let added = added_one n alike same in
      let past : e ∷ old.core.past ≡ new.core.past = sym added.past in
      let up : new.trouble ≡ old.trouble = ap (λ (b : BookState D T). b.trouble) n.rest in
      record {
        added = added;
        sound = record {
          records = n.records;
          of_stream = subst (All IsOfStream) (sym told) (All-push IsOfStream (told_of old.core) (alone e) sound.of_stream is);
          legal = subst (λ (s : Setting). LegalOver s new.core.past) (sym same) (subst (LegalOver old.core.setting) past legal);
          settled = λ none. subst (λ (s : Setting). SettledOver s new.core.past) (sym same) (subst (SettledOver old.core.setting) past (settled (sym up ∙ none)));
          hand_follows = λ x some.
              let was : in_hand old.trouble old.core.owed ≡ x ∷ [] = sym (ap₂ (λ (why : Option Trouble) (es : List Entry). in_hand why es) up added.owed) ∙ some in
              subst (λ (s : Setting). MayFollowFront s new.core.past x) (sym same)
              (subst (λ (h : List Entry). MayFollowFront old.core.setting h x) past
              (follows_on (λ before y. LegalOver old.core.setting (y ∷ before)) old.core.past e x ends (sound.hand_follows x was)));
          tried_follows = λ x some.
              let was : in_delivery old.trouble old.core.owed ≡ x ∷ [] = sym (ap₂ (λ (why : Option Trouble) (es : List Entry). in_delivery why es) up added.owed) ∙ some in
              subst (λ (s : Setting). MayFollowFront s new.core.past x) (sym same)
              (subst (λ (h : List Entry). MayFollowFront old.core.setting h x) past
              (follows_on (λ before y. LegalOver old.core.setting (y ∷ before)) old.core.past e x ends (sound.tried_follows x was)));
          hand_is_one = λ failed.
              let one = sound.hand_is_one (sym up ∙ failed) in
              (one.0, one.1, ap₂ (λ (why : Option Trouble) (es : List Entry). in_hand why es) up added.owed ∙ one.2, ap (λ (s : Setting). entry_payload s one.0) same ∙ one.3);
          tried_is_one = λ failed.
              let one = sound.tried_is_one (sym up ∙ failed) in
              (one.0, one.1, ap₂ (λ (why : Option Trouble) (es : List Entry). in_delivery why es) up added.owed ∙ one.2, one.3);
        };
      }

-- the end of a call, on a book that is down
pub noted_end : {D T : Type 0} (old new : BookState D T) (job : Job) (reply : Reply) (moment : ℕ) (X : List StreamEntry) → IsSound old → (old.trouble ≡ None → ⊥) → IsRunningJob old.core.past job → last_moment old.core.past ≤ MAX_MOMENT
    → IsNoted old new X (Ended job.lane reply (moment_for old.core.past moment)) → Noted old new (Ended job.lane reply (moment_for old.core.past moment))
noted_end old new job reply moment X sound down runs within n =
    noted_so old new X (Ended job.lane reply (moment_for old.core.past moment)) n refl refl (record { none = λ k. refl; shards = λ h. refl }) (record { records = refl; no_messages = refl }) sound
    (λ streams goes. (sound.legal streams goes, (later_for old.core.past moment within, runs.runs))) (λ up. absurd (down up)) refl

-- the end of the input, on a book that is not
pub noted_shut : {D T : Type 0} (old new : BookState D T) (moment : ℕ) (X : List StreamEntry) → IsSound old → old.trouble ≡ None → is_shut old.core.past ≡ false → last_moment old.core.past ≤ MAX_MOMENT
    → IsNoted old new X (Shut (moment_for old.core.past moment)) → Noted old new (Shut (moment_for old.core.past moment))
noted_shut old new moment X sound up going within n =
    let m = moment_for old.core.past moment in
    noted_so old new X (Shut m) n refl refl (record { none = λ k. refl; shards = λ h. refl }) (record { records = refl; no_messages = refl }) sound
    (shut_legal old.core.setting old.core.past m sound.legal (sound.settled up) going (later_for old.core.past moment within)) (λ same. shut_settled old.core.setting old.core.past m (sound.settled up)) refl
