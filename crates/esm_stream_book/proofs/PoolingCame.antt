-- Records that come to a book from its reader, and the end of its input: what they add to the history.
use Rattle.std.proofs.Common.{◌≡◌, ℕ, Bool, true, false, ◌||◌, List, [], ◌∷◌, ◌++◌, length, take, drop, reverse, refl, sym, ap, ◌∙◌, subst, inl, inr, append_assoc, arith, Some, None}
use Rattle.std.specs.Prelude.{◌==◌, ◌↔◌, ◌⊎◌, map, max, ⊤, is_some, if◌then◌else◌, Result, Ok, Err, IfErr, OnOk, OnErr, IsErrOf, IsSome}
use Rattle.std.proofs.lemmas.Bool.{cases_Bool, eq-eqb, eqb-true}
use Rattle.std.proofs.lemmas.List.{append-nil, reverse-append}
use Rattle.std.proofs.Math.Seq.{drop-append_seam, take-length}
use Rattle.esm_io.specs.Meanings.{DiskMeaning, DestMeaning}
use Rattle.esm_model.specs.Records.{Record}
use Rattle.esm_model.specs.declared.book.BookError.{BookError}
use Rattle.esm_model.specs.declared.book.BookError.TheVariants as why
use Rattle.esm_model.specs.declared.book.CameError.{CameError}
use Rattle.esm_model.specs.declared.book.CameError.TheVariants as refusal
use Rattle.esm_model.specs.declared.book.Change.{Change}
use Rattle.esm_model.specs.declared.book.Trouble.{Trouble}
use Rattle.esm_model.specs.declared.book.Trouble.TheVariants.{Disk, Changed}
use Rattle.esm_model.specs.declared.entry.Entry.{Entry}
use Rattle.esm_model.specs.declared.entry.Entry.TheVariants.{Came, Began, Ended, Gave, Tried, Closed, Replayed, Shut}
use Rattle.esm_model.specs.declared.setup.Told.{Told}
use Rattle.esm_model.specs.Moment.{capped_moment}
use Rattle.esm_model.specs.Setting.{Setting, Stream, records_in, records_of, over}
use Rattle.esm_model.specs.Entries.{moment_of, last_moment, holds, came_count, is_shut, is_shut_entry}
use Rattle.esm_model.specs.Books.{entries_told, records_told, lane_of_entry}
use Rattle.esm_model.specs.Kept.{change_of}
use Rattle.esm_model.proofs.Lists.{Distinct}
use Rattle.esm_model.proofs.TellingFacts.{entries_more, records_in_told, records-append}
use Rattle.esm_model.proofs.BookLaws.{count_told}
use Rattle.esm_ledger.specs.Coming.{with_list}
use Rattle.esm_ingest.specs.Coming.{with_record, with_records, shards_of, of_shard}
use Rattle.esm_ingest.specs.Parts.{Part, part_in, parts_of, grown_by}
use Rattle.esm_ingest.specs.Entries.{came_part, came_parts, filtered_at, filtered_parts, part_entries}
use Rattle.esm_ingest.proofs.Shards.{of_none, shards_distinct}
use Rattle.esm_ingest.proofs.Streams.{grown_parts}
use Rattle.esm_stream_core.specs.Calls.{streams_of, moment_for, coming_lists, came_entries, Differs}
use Rattle.esm_stream_core.specs.CoreView.{CoreView, full_setting, with_coming, setting_with}
use Rattle.esm_stream_core.specs.Told.{covered, stream_entry, told_entries, told_of}
use Rattle.esm_model.specs.GoingOn.{AllAt, change_told}
use Rattle.esm_stream_book.specs.Books.{BookState, is_down}
use Rattle.esm_stream_book.specs.Calls.{Added, AddedAll, AddedSome, AddedOne, IsSame}
use Rattle.esm_stream_book.specs.Keeping.{IsSound}
use Rattle.esm_stream_book.proofs.Records.{entries_same}
use Rattle.esm_stream_book.proofs.PoolingChanges.{none_while_up}

-- what the reader adds

-- none of the entries is a batcher's
abbrev pub AreReaders : List Told → Type 0
AreReaders [] = Unit {0}
AreReaders (t ∷ ts) = (lane_of_entry t.entry ≡ None) × AreReaders ts

-- the reader added entries at the moment; what the book was opened with stays, and so does its trouble
pub record IsBrought {D T : Type 0} (moment : ℕ) (before after : BookState D T) : Type 0 where
  pub more : List Told
  pub told : told_of after.core ≡ told_of before.core ++ more
  pub own : AreReaders more
  pub moments : AllAt moment (told_of before.core) more
  pub setting : after.core.setting ≡ over before.core.setting after.core.setting.streams
  pub found : after.found ≡ before.found
  pub found_dest : after.found_dest ≡ before.found_dest
  pub down : is_down before ≡ true → is_down after ≡ true

-- the records of each shard that came, as a history tells them
abbrev pub come_by : List Told → ℕ → List Record
come_by history n = records_told n history

-- of each shard those of the list came behind those that had come
abbrev pub AreAdded : (before after : ℕ → List Record) → List Record → Type 0
AreAdded before after records = (n : ℕ) → after n ≡ before n ++ of_shard n records

-- or the first of them
abbrev pub SomeAdded : (before after : ℕ → List Record) → List Record → Type 0
SomeAdded before after records = (n : ℕ) → (rest : List Record) × (before n ++ of_shard n records ≡ after n ++ rest)

one_more : (e : Entry) (es h : List Entry) → reverse es ++ e ∷ h ≡ reverse (e ∷ es) ++ h
one_more e es h = sym (ap (λ xs. xs ++ h) (reverse-append (e ∷ []) es) ∙ append_assoc (reverse es) (e ∷ []) h)

-- the moment stays where it comes once more
again : (m last t : ℕ) → m ≡ capped_moment (max t last) → m ≡ capped_moment (max t m)
again m last t is = grind (arith, is)

-- entries that bring no record

abbrev IsOther : Entry → Type 0
IsOther (Came shard first count moment) = ⊥
IsOther _ = ⊤

abbrev AreOthers : List Entry → Type 0
AreOthers [] = ⊤
AreOthers (e ∷ es) = IsOther e × AreOthers es

records_other : (n : ℕ) (s : Setting) (e : Entry) (es : List Entry) → IsOther e → records_told n (told_entries s (e ∷ es)) ≡ records_told n (told_entries s es)
records_other n s (Came shard first count moment) es other = absurd other
records_other n s (Began lane places closing m) es other = refl
records_other n s (Ended lane reply m) es other = refl
records_other n s (Gave by k places f line state m) es other = refl
records_other n s (Tried lane places closing t m) es other = refl
records_other n s (Closed lane w m) es other = refl
records_other n s (Replayed k places m) es other = refl
records_other n s (Shut m) es other = refl

records_none : (n : ℕ) (s : Setting) (es : List Entry) → AreOthers es → records_told n (told_entries s es) ≡ []
records_none n s [] others = refl
records_none n s (e ∷ es) others = records_other n s e es others.0 ∙ records_none n s es others.1

-- records came, or were filtered
abbrev IsArrival : Entry → Type 0
IsArrival (Came shard first count moment) = ⊤
IsArrival (Gave None shard places fate line state moment) = ⊤
IsArrival _ = ⊥

-- the entries of one moment

abbrev AreAt : ℕ → List Entry → Type 0
AreAt m [] = ⊤
AreAt m (e ∷ es) = ((m ≡ moment_of e) × IsArrival e) × AreAt m es

at_both : (m : ℕ) (xs ys : List Entry) → AreAt m xs → AreAt m ys → AreAt m (xs ++ ys)
at_both m [] ys first second = second
at_both m (e ∷ xs) ys first second = (first.0, at_both m xs ys first.1 second)

at_front : (m : ℕ) (xs ys : List Entry) → AreAt m (xs ++ ys) → AreAt m xs
at_front m [] ys all = tt
at_front m (e ∷ xs) ys all = (all.0, at_front m xs ys all.1)

at_came : (m : ℕ) (ps : List Part) → AreAt m (came_parts m ps)
at_came m [] = tt
at_came m (p ∷ ps) = ((refl, tt), at_came m ps)

at_filtered_one : (m n : ℕ) (places : List ℕ) → AreAt m (filtered_at m n places)
at_filtered_one m n [] = tt
at_filtered_one m n (i ∷ places) = ((refl, tt), tt)

at_filtered : (m : ℕ) (ps : List Part) → AreAt m (filtered_parts m ps)
at_filtered m [] = tt
at_filtered m (p ∷ ps) = at_both m (filtered_at m p.shard p.refused) (filtered_parts m ps) (at_filtered_one m p.shard p.refused) (at_filtered m ps)

at_parts : (m : ℕ) (ps : List Part) → AreAt m (part_entries m ps)
at_parts m ps = at_both m (came_parts m ps) (filtered_parts m ps) (at_came m ps) (at_filtered m ps)

-- they are the reader's

arrival_lane : (e : Entry) → IsArrival e → lane_of_entry e ≡ None
arrival_lane (Came n first count m) is = refl
arrival_lane (Gave None n places f line state m) is = refl
arrival_lane (Gave (Some lane) n places f line state m) is = absurd is
arrival_lane (Began lane places closing m) is = absurd is
arrival_lane (Ended lane reply m) is = absurd is
arrival_lane (Tried lane places closing t m) is = absurd is
arrival_lane (Closed lane w m) is = absurd is
arrival_lane (Replayed n places m) is = absurd is
arrival_lane (Shut m) is = absurd is

arrival_open : (e : Entry) → IsArrival e → is_shut_entry e ≡ false
arrival_open (Came n first count m) is = refl
arrival_open (Gave by n places f line state m) is = refl
arrival_open (Began lane places closing m) is = absurd is
arrival_open (Ended lane reply m) is = absurd is
arrival_open (Tried lane places closing t m) is = absurd is
arrival_open (Closed lane w m) is = absurd is
arrival_open (Replayed n places m) is = absurd is
arrival_open (Shut m) is = absurd is

readers_at : (m : ℕ) (s : Setting) (es : List Entry) → AreAt m es → AreReaders (told_entries s es)
readers_at m s [] all = tt
readers_at m s (e ∷ es) all = (arrival_lane e all.0.1, readers_at m s es all.1)

open_at : (m : ℕ) (es h : List Entry) → AreAt m es → is_shut h ≡ false → is_shut (reverse es ++ h) ≡ false
open_at m [] h all going = going
open_at m (e ∷ es) h all going =
    let here : is_shut (e ∷ h) ≡ false = ap (λ b. b || is_shut h) (arrival_open e all.0.1) ∙ going in
    ap is_shut (sym (one_more e es h)) ∙ open_at m es (e ∷ h) all.1 here

-- at the moment that was handed in
moments_at : (moment m : ℕ) (s : Setting) (h : List Told) (es : List Entry) → m ≡ capped_moment (max moment (last_moment (entries_told h))) → AreAt m es → AllAt moment h (told_entries s es)
moments_at moment m s h [] is all = tt
moments_at moment m s h (e ∷ es) is all =
    let t : Told = (stream_entry s e).told in
    let last : last_moment (entries_told (h ++ t ∷ [])) ≡ m = ap last_moment (entries_more h t) ∙ sym all.0.0 in (
      sym all.0.0 ∙ is,
      moments_at moment m s (h ++ t ∷ []) es (again m (last_moment (entries_told h)) moment is ∙ ap (λ l. capped_moment (max moment l)) (sym last)) all.1,
    )

-- what is added

pub past_is : {D T : Type 0} (v : BookState D T) → entries_told (told_of v.core) ≡ v.core.past
past_is v = entries_same (full_setting v.core) v.core.past

moment_now : {D T : Type 0} (v : BookState D T) (moment : ℕ) → moment_for v.core.past moment ≡ capped_moment (max moment (last_moment (entries_told (told_of v.core))))
moment_now v moment = ap (λ h. capped_moment (max moment (last_moment h))) (sym (past_is v))

brought_front : {D T : Type 0} (s : Setting) (list : List Record) (moment : ℕ) (v w : BookState D T) (front rest : List Entry)
    → front ++ rest ≡ came_entries v.core list (moment_for v.core.past moment) → Added s v w front → (is_down v ≡ true → is_down w ≡ true) → IsBrought moment v w
brought_front s list moment v w front rest split added down =
    let m : ℕ = moment_for v.core.past moment in
    let all : AreAt m front = at_front m front rest (subst (AreAt m) (sym split) (at_parts m (parts_of v.core.setting v.core.past list))) in
    record {
      more = told_entries s front;
      told = added.told;
      own = readers_at m s front all;
      moments = moments_at moment m s (told_of v.core) front (moment_now v moment) all;
      setting = added.opened;
      found = added.found;
      found_dest = added.found_dest;
      down = down;
    }

brought_all : {D T : Type 0} (d : DiskMeaning D) (n : DestMeaning T) (list : List Record) (moment : ℕ) (v w : BookState D T)
    → AddedAll d n (setting_with v.core.setting (coming_lists v.core list)) v w (came_entries v.core list (moment_for v.core.past moment)) → (is_down v ≡ true → is_down w ≡ true) → IsBrought moment v w
brought_all d n list moment v w all down = brought_front (setting_with v.core.setting (coming_lists v.core list)) list moment v w (came_entries v.core list (moment_for v.core.past moment)) [] (append-nil _) all.added down

brought_some : {D T : Type 0} (d : DiskMeaning D) (n : DestMeaning T) (list : List Record) (moment : ℕ) (trouble : Trouble) (v w : BookState D T)
    → AddedSome d n (setting_with v.core.setting (coming_lists v.core list)) v w (came_entries v.core list (moment_for v.core.past moment)) trouble → IsBrought moment v w
brought_some d n list moment trouble v w some = brought_front (setting_with v.core.setting (coming_lists v.core list)) list moment v w some.front some.rest some.split some.added (λ is. ap is_some some.trouble_is)

brought_still : {D T : Type 0} (moment : ℕ) (v w : BookState D T) → w.core ≡ v.core → w.found ≡ v.found → w.found_dest ≡ v.found_dest → (is_down v ≡ true → is_down w ≡ true) → IsBrought moment v w
brought_still moment v w core found found_dest down = record {
  more = [];
  told = ap told_of core ∙ sym (append-nil (told_of v.core));
  own = tt;
  moments = tt;
  setting = ap (λ (x : CoreView). x.setting) core ∙ ap (λ (x : CoreView). over v.core.setting x.setting.streams) (sym core);
  found = found;
  found_dest = found_dest;
  down = down;
}

brought_changed : {D T : Type 0} (moment : ℕ) (v w : BookState D T) (change : Change) → w ≡ record v { trouble = Some (Changed change) } → IsBrought moment v w
brought_changed {D} {T} moment v w change is = brought_still moment v w (ap (λ (b : BookState D T). b.core) is) (ap (λ (b : BookState D T). b.found) is) (ap (λ (b : BookState D T). b.found_dest) is)
    (λ down. ap (λ (b : BookState D T). is_down b) is)

brought_same : {D T : Type 0} (n : DestMeaning T) (moment : ℕ) (v w : BookState D T) → IsSame n v w → IsBrought moment v w
brought_same {D} {T} n moment v w same = brought_still moment v w (ap (λ (b : BookState D T). b.core) same.rest) (ap (λ (b : BookState D T). b.found) same.rest) (ap (λ (b : BookState D T). b.found_dest) same.rest)
    (λ down. ap (λ (b : BookState D T). is_down b) same.rest ∙ down)

brought_nothing : {D T : Type 0} (moment : ℕ) (v w : BookState D T) → w ≡ v → IsBrought moment v w
brought_nothing {D} {T} moment v w is = brought_still moment v w (ap (λ (b : BookState D T). b.core) is) (ap (λ (b : BookState D T). b.found) is) (ap (λ (b : BookState D T). b.found_dest) is)
    (λ down. ap (λ (b : BookState D T). is_down b) is ∙ down)

-- the input has not ended by it

open_all : {D T : Type 0} (d : DiskMeaning D) (n : DestMeaning T) (list : List Record) (moment : ℕ) (v w : BookState D T)
    → AddedAll d n (setting_with v.core.setting (coming_lists v.core list)) v w (came_entries v.core list (moment_for v.core.past moment)) → is_shut v.core.past ≡ false → is_shut w.core.past ≡ false
open_all d n list moment v w all going =
    let m : ℕ = moment_for v.core.past moment in
    ap is_shut all.added.past ∙ open_at m (came_entries v.core list m) v.core.past (at_parts m (parts_of v.core.setting v.core.past list)) going

open_some : {D T : Type 0} (d : DiskMeaning D) (n : DestMeaning T) (list : List Record) (moment : ℕ) (trouble : Trouble) (v w : BookState D T)
    → AddedSome d n (setting_with v.core.setting (coming_lists v.core list)) v w (came_entries v.core list (moment_for v.core.past moment)) trouble → is_shut v.core.past ≡ false → is_shut w.core.past ≡ false
open_some d n list moment trouble v w some going =
    let m : ℕ = moment_for v.core.past moment in
    ap is_shut some.added.past ∙ open_at m some.front v.core.past (at_front m some.front some.rest (subst (AreAt m) (sym some.split) (at_parts m (parts_of v.core.setting v.core.past list)))) going

open_still : {D T : Type 0} (v w : BookState D T) → w.core ≡ v.core → is_shut v.core.past ≡ false → is_shut w.core.past ≡ false
open_still v w core going = ap (λ (x : CoreView). is_shut x.past) core ∙ going

-- the records of each shard

grown_by_lists : (ps : List Part) (ts : List Stream) → with_coming ts (streams_of ps) ≡ grown_by ts ps
grown_by_lists [] ts = refl
grown_by_lists (p ∷ ps) ts = grown_by_lists ps (with_list ts p.shard p.records)

in_record : (ts : List Stream) (r : Record) (n : ℕ) → records_in (with_record ts r) n ≡ records_in ts n ++ (if r.shard == n then r ∷ [] else [])
in_record [] r n = elim (cases_Bool (r.shard == n)) [ inl is ↦ rw is refl | inr other ↦ rw other refl ]
in_record (t ∷ ts) r n = elim (cases_Bool (t.shard == r.shard)) [
  | inl same ↦ rw same (elim (cases_Bool (t.shard == n)) [
    | inl here ↦ (let also : (r.shard == n) ≡ true = eq-eqb r.shard n (sym (eqb-true t.shard r.shard same) ∙ eqb-true t.shard n here) in rw here (rw also refl))
    | inr off ↦ (let also : (r.shard == n) ≡ false = elim (cases_Bool (r.shard == n)) [ inl is ↦ absurd (let clash : true ≡ false = sym (eq-eqb t.shard n (eqb-true t.shard r.shard same ∙ eqb-true r.shard n is)) ∙ off in cc) | inr not ↦ not ] in rw off (rw also (sym (append-nil (records_in ts n)))))
  ])
  | inr apart ↦ rw apart (elim (cases_Bool (t.shard == n)) [
    | inl here ↦ (let also : (r.shard == n) ≡ false = elim (cases_Bool (r.shard == n)) [ inl is ↦ absurd (let clash : true ≡ false = sym (eq-eqb t.shard r.shard (eqb-true t.shard n here ∙ sym (eqb-true r.shard n is))) ∙ apart in cc) | inr not ↦ not ] in rw here (rw also (sym (append-nil t.records))))
    | inr off ↦ rw off (in_record ts r n)
  ])
]

in_records : (ts : List Stream) (rs : List Record) (n : ℕ) → records_in (with_records ts rs) n ≡ records_in ts n ++ of_shard n rs
in_records ts [] n = sym (append-nil (records_in ts n))
in_records ts (r ∷ rs) n = in_records (with_record ts r) rs n ∙ ap (λ l. l ++ of_shard n rs) (in_record ts r n) ∙ append_assoc (records_in ts n) (if r.shard == n then r ∷ [] else []) (of_shard n rs)
    ∙ ap (λ l. records_in ts n ++ l) (of_first (r.shard == n))
  where
    of_first : (b : Bool) → (if b then r ∷ [] else []) ++ of_shard n rs ≡ (if b then r ∷ of_shard n rs else of_shard n rs)
    of_first true = refl
    of_first false = refl

-- with the list
in_coming : (v : CoreView) (list : List Record) (n : ℕ) → records_of (setting_with v.setting (coming_lists v list)) n ≡ records_in v.setting.streams n ++ of_shard n list
in_coming v list n =
    ap (λ (ts : List Stream). records_in ts n) (grown_by_lists (parts_of v.setting v.past list) v.setting.streams ∙ grown_parts v.setting v.past list v.setting.streams)
    ∙ in_records v.setting.streams list n

-- a book's history counts its records

pub counted : {D T : Type 0} (v : BookState D T) → IsSound v → (n : ℕ) → came_count v.core.past n ≡ length (records_in v.core.setting.streams n)
counted v sound n =
    ap (λ h. came_count h n) (sym (entries_same (full_setting v.core) v.core.past)) ∙ count_told (told_of v.core) n sound.of_stream
    ∙ ap (λ (rs : List Record). length rs) (sym (ap (λ (ts : List Stream). records_in ts n) sound.records ∙ records_in_told (told_of v.core) n))

-- what the told entries of a list tell of each shard

covered_is : (v : CoreView) (list : List Record) (k m : ℕ) → came_count v.past k ≡ length (records_in v.setting.streams k)
    → covered (setting_with v.setting (coming_lists v list)) (came_part m (part_in v.setting v.past list k)) ≡ of_shard k list
covered_is v list k m count =
    ap (λ l. take (length (of_shard k list)) (drop (came_count v.past k) l)) (in_coming v list k)
    ∙ ap (λ i. take (length (of_shard k list)) (drop i (records_in v.setting.streams k ++ of_shard k list))) count
    ∙ ap (λ l. take (length (of_shard k list)) l) (drop-append_seam (records_in v.setting.streams k) (of_shard k list))
    ∙ take-length (of_shard k list)

came_told : (v : CoreView) (list : List Record) (n m : ℕ) (ns : List ℕ) → ((k : ℕ) → came_count v.past k ≡ length (records_in v.setting.streams k)) → Distinct ns
    → records_told n (told_entries (setting_with v.setting (coming_lists v list)) (came_parts m (map (part_in v.setting v.past list) ns))) ≡ (if holds ns n then of_shard n list else [])
came_told v list n m [] count d = refl
came_told v list n m (k ∷ ns) count d =
    let s : Setting = setting_with v.setting (coming_lists v list) in
    let more = came_told v list n m ns count d.1 in
    elim (cases_Bool (k == n)) [
      | inl is ↦ (
          let here : k ≡ n = eqb-true k n is in
          let none : holds ns n ≡ false = subst (λ i. holds ns i ≡ false) here d.0 in
          let rest : records_told n (told_entries s (came_parts m (map (part_in v.setting v.past list) ns))) ≡ [] = more ∙ ap (λ b. if b then of_shard n list else []) none in
          let first : covered s (came_part m (part_in v.setting v.past list k)) ≡ of_shard n list = covered_is v list k m (count k) ∙ ap (λ i. of_shard i list) here in
          rw is (ap (λ l. covered s (came_part m (part_in v.setting v.past list k)) ++ l) rest ∙ append-nil _ ∙ first))
      | inr off ↦ rw off more
    ]

others_both : (xs ys : List Entry) → AreOthers xs → AreOthers ys → AreOthers (xs ++ ys)
others_both [] ys first second = second
others_both (e ∷ xs) ys first second = (first.0, others_both xs ys first.1 second)

others_filtered_one : (m n : ℕ) (places : List ℕ) → AreOthers (filtered_at m n places)
others_filtered_one m n [] = tt
others_filtered_one m n (i ∷ places) = (tt, tt)

others_filtered : (m : ℕ) (ps : List Part) → AreOthers (filtered_parts m ps)
others_filtered m [] = tt
others_filtered m (p ∷ ps) = others_both (filtered_at m p.shard p.refused) (filtered_parts m ps) (others_filtered_one m p.shard p.refused) (others_filtered m ps)

told_both : (s : Setting) (xs ys : List Entry) → told_entries s (xs ++ ys) ≡ told_entries s xs ++ told_entries s ys
told_both s [] ys = refl
told_both s (e ∷ xs) ys = ap (λ l. (stream_entry s e).told ∷ l) (told_both s xs ys)

list_told : (v : CoreView) (list : List Record) (n m : ℕ) → ((k : ℕ) → came_count v.past k ≡ length (records_in v.setting.streams k))
    → records_told n (told_entries (setting_with v.setting (coming_lists v list)) (came_entries v list m)) ≡ of_shard n list
list_told v list n m count =
    let s : Setting = setting_with v.setting (coming_lists v list) in
    let ps : List Part = parts_of v.setting v.past list in
    ap (records_told n) (told_both s (came_parts m ps) (filtered_parts m ps))
    ∙ records-append n (told_entries s (came_parts m ps)) (told_entries s (filtered_parts m ps))
    ∙ ap (λ l. records_told n (told_entries s (came_parts m ps)) ++ l) (records_none n s (filtered_parts m ps) (others_filtered m ps))
    ∙ append-nil _ ∙ came_told v list n m (shards_of list) count (shards_distinct list) ∙ at_shard (holds (shards_of list) n) refl
  where
    at_shard : (b : Bool) → holds (shards_of list) n ≡ b → (if b then of_shard n list else []) ≡ of_shard n list
    at_shard true is = refl
    at_shard false is = sym (of_none list n is)

told_more : {D T : Type 0} (s : Setting) (v w : BookState D T) (es : List Entry) (n : ℕ) → Added s v w es → come_by (told_of w.core) n ≡ come_by (told_of v.core) n ++ records_told n (told_entries s es)
told_more s v w es n added = ap (records_told n) added.told ∙ records-append n (told_of v.core) (told_entries s es)

added_all : {D T : Type 0} (d : DiskMeaning D) (e : DestMeaning T) (list : List Record) (t : ℕ) (v w : BookState D T) → IsSound v
    → AddedAll d e (setting_with v.core.setting (coming_lists v.core list)) v w (came_entries v.core list (moment_for v.core.past t)) → AreAdded (come_by (told_of v.core)) (come_by (told_of w.core)) list
added_all d e list t v w sound all n =
    told_more (setting_with v.core.setting (coming_lists v.core list)) v w (came_entries v.core list (moment_for v.core.past t)) n all.added
    ∙ ap (λ l. come_by (told_of v.core) n ++ l) (list_told v.core list n (moment_for v.core.past t) (counted v sound))

-- a disk failed before all of it was added
added_some : {D T : Type 0} (d : DiskMeaning D) (e : DestMeaning T) (list : List Record) (t : ℕ) (trouble : Trouble) (v w : BookState D T) → IsSound v
    → AddedSome d e (setting_with v.core.setting (coming_lists v.core list)) v w (came_entries v.core list (moment_for v.core.past t)) trouble → SomeAdded (come_by (told_of v.core)) (come_by (told_of w.core)) list
added_some d e list t trouble v w sound some n =
    let s : Setting = setting_with v.core.setting (coming_lists v.core list) in
    let m : ℕ = moment_for v.core.past t in
    let old = come_by (told_of v.core) n in
    let front = records_told n (told_entries s some.front) in
    let rest = records_told n (told_entries s some.rest) in
    let parts : of_shard n list ≡ front ++ rest =
    sym (list_told v.core list n m (counted v sound)) ∙ ap (λ es. records_told n (told_entries s es)) (sym some.split)
    ∙ ap (records_told n) (told_both s some.front some.rest) ∙ records-append n (told_entries s some.front) (told_entries s some.rest) in
    (rest, ap (λ l. old ++ l) parts ∙ sym (append_assoc old front rest) ∙ ap (λ l. l ++ rest) (sym (told_more s v w some.front n some.added)))

added_none : {D T : Type 0} (v w : BookState D T) (list : List Record) → w.core ≡ v.core → SomeAdded (come_by (told_of v.core)) (come_by (told_of w.core)) list
added_none v w list core n = (of_shard n list, ap (λ (x : CoreView). come_by (told_of x) n ++ of_shard n list) (sym core))

added_so : (v w : ℕ → List Record) (list : List Record) → AreAdded v w list → SomeAdded v w list
added_so v w list added n = ([], sym (added n) ∙ sym (append-nil _))

-- the end of the input is noted

brought_end : {D T : Type 0} (moment : ℕ) (v w : BookState D T) → AddedOne v w (Shut (moment_for v.core.past moment)) → IsBrought moment v w
brought_end {D} {T} moment v w one = record {
  more = told_entries v.core.setting (Shut (moment_for v.core.past moment) ∷ []);
  told = one.told;
  own = (refl, tt);
  moments = (moment_now v moment, tt);
  setting = one.setting ∙ ap (λ (s : Setting). over v.core.setting s.streams) (sym one.setting);
  found = ap (λ (b : BookState D T). b.found) one.rest;
  found_dest = ap (λ (b : BookState D T). b.found_dest) one.rest;
  down = λ is. ap (λ (b : BookState D T). is_down b) one.rest ∙ is;
}

same_end : {D T : Type 0} (moment n : ℕ) (v w : BookState D T) → AddedOne v w (Shut (moment_for v.core.past moment)) → records_told n (told_of w.core) ≡ records_told n (told_of v.core)
same_end moment n v w one = ap (records_told n) one.told ∙ records-append n (told_of v.core) (told_entries v.core.setting (Shut (moment_for v.core.past moment) ∷ [])) ∙ append-nil (records_told n (told_of v.core))

same_nothing : {D T : Type 0} (n : ℕ) (v w : BookState D T) → w ≡ v → records_told n (told_of w.core) ≡ records_told n (told_of v.core)
same_nothing {D} {T} n v w is = ap (λ (b : BookState D T). records_told n (told_of b.core)) is

-- what a call by which records come ensures, and what is so then

-- what the book ensures of the call
pub record CameSays {D T : Type 0} (d : DiskMeaning D) (n : DestMeaning T) (list : List Record) (moment : ℕ) (v w : BookState D T) (r : Result (Unit {0}) CameError) : Type 0 where
  pub added : OnOk r (AddedAll d n (setting_with v.core.setting (coming_lists v.core list)) v w (came_entries v.core list (moment_for v.core.past moment)))
  pub stopped : IsErrOf r refusal.DiskFault → AddedSome d n (setting_with v.core.setting (coming_lists v.core list)) v w (came_entries v.core list (moment_for v.core.past moment)) Disk
  pub changed : (change : Change) → IsErrOf r (refusal.StreamChanged change) → (v.trouble ≡ None) × Differs v.core list change × (w ≡ record v { trouble = Some (Changed change) })
  pub down : IsErrOf r refusal.Down ↔ IsSome v.trouble
  pub left : IsErrOf r refusal.Down → w ≡ v
  pub no_memory : IsErrOf r refusal.OutOfMemory → IsSame n v w

-- what is so of the records that came
pub record HasCome {D T : Type 0} (list : List Record) (moment : ℕ) (v w : BookState D T) (r : Result (Unit {0}) CameError) : Type 0 where
  pub brought : IsBrought moment v w
  pub going : is_shut w.core.past ≡ false
  pub all : OnOk r (AreAdded (come_by (told_of v.core)) (come_by (told_of w.core)) list)
  pub some : SomeAdded (come_by (told_of v.core)) (come_by (told_of w.core)) list
  pub down : IfErr r (λ e. (e ≡ refusal.OutOfMemory) ⊎ (is_down w ≡ true))

-- the core is as it was
come_still : {D T : Type 0} (list : List Record) (moment : ℕ) (v w : BookState D T) (e : CameError) → IsBrought moment v w → w.core ≡ v.core → is_shut v.core.past ≡ false → (e ≡ refusal.OutOfMemory) ⊎ (is_down w ≡ true) → HasCome list moment v w (Err e)
come_still list moment v w e brought core going down = record { brought = brought; going = open_still v w core going; all = tt; some = added_none v w list core; down = down }

pub has_come : {D T : Type 0} (d : DiskMeaning D) (n : DestMeaning T) (list : List Record) (moment : ℕ) (v w : BookState D T) (r : Result (Unit {0}) CameError) → CameSays d n list moment v w r → IsSound v → is_shut v.core.past ≡ false → HasCome list moment v w r
has_come d n list moment v w (Ok u) says sound going = record {
  brought = brought_all d n list moment v w says.added (λ was. absurd (let clash : Ok u ≡ Err refusal.Down = says.down.1 was in cc));
  going = open_all d n list moment v w says.added going;
  all = added_all d n list moment v w sound says.added;
  some = added_so (come_by (told_of v.core)) (come_by (told_of w.core)) list (added_all d n list moment v w sound says.added);
  down = tt;
}
has_come d n list moment v w (Err refusal.DiskFault) says sound going =
    let some = says.stopped refl in
    record {
      brought = brought_some d n list moment Disk v w some;
      going = open_some d n list moment Disk v w some going;
      all = tt;
      some = added_some d n list moment Disk v w sound some;
      down = inr (ap is_some some.trouble_is);
    }
has_come {D} {T} d n list moment v w (Err (refusal.StreamChanged change)) says sound going =
    let is : w ≡ record v { trouble = Some (Changed change) } = (says.changed change refl).2 in
    come_still list moment v w (refusal.StreamChanged change) (brought_changed moment v w change is) (ap (λ (b : BookState D T). b.core) is) going (inr (ap (λ (b : BookState D T). is_down b) is))
has_come {D} {T} d n list moment v w (Err refusal.Down) says sound going =
    let is : w ≡ v = says.left refl in
    come_still list moment v w refusal.Down (brought_nothing moment v w is) (ap (λ (b : BookState D T). b.core) is) going (inr (ap (λ (b : BookState D T). is_down b) is ∙ says.down.0 refl))
has_come {D} {T} d n list moment v w (Err refusal.OutOfMemory) says sound going =
    let same = says.no_memory refl in
    come_still list moment v w refusal.OutOfMemory (brought_same n moment v w same) (ap (λ (b : BookState D T). b.core) same.rest) going (inl refl)

-- the change that the book was told: the one that the records brought, if they brought one
pub came_tells : {D T : Type 0} (d : DiskMeaning D) (n : DestMeaning T) (list : List Record) (moment : ℕ) (v w : BookState D T) (r : Result (Unit {0}) CameError) → CameSays d n list moment v w r → change_of w.trouble ≡ change_told (change_of v.trouble) r
came_tells d n list moment v w (Ok u) says =
    ap change_of says.added.trouble ∙ sym (none_while_up v.trouble (λ was. let clash : Ok u ≡ Err refusal.Down = says.down.1 was in absurd (cc)))
came_tells d n list moment v w (Err refusal.DiskFault) says =
    ap change_of (says.stopped refl).trouble_is ∙ sym (none_while_up v.trouble (λ was. let clash : Err refusal.DiskFault ≡ Err refusal.Down = says.down.1 was in absurd (cc)))
came_tells {D} {T} d n list moment v w (Err (refusal.StreamChanged change)) says = ap (λ (b : BookState D T). change_of b.trouble) (says.changed change refl).2
came_tells {D} {T} d n list moment v w (Err refusal.Down) says = ap (λ (b : BookState D T). change_of b.trouble) (says.left refl)
came_tells {D} {T} d n list moment v w (Err refusal.OutOfMemory) says = ap (λ (b : BookState D T). change_of b.trouble) (says.no_memory refl).rest

-- and by one that notes the input's end

pub record HasEndedInput {D T : Type 0} (moment : ℕ) (v w : BookState D T) : Type 0 where
  pub brought : IsBrought moment v w
  pub same : (n : ℕ) → records_told n (told_of w.core) ≡ records_told n (told_of v.core)
  pub shut : is_down w ≡ false → is_shut w.core.past ≡ true
  pub change : change_of w.trouble ≡ change_of v.trouble

pub has_ended : {D T : Type 0} (moment : ℕ) (v w : BookState D T) (r : Result (Unit {0}) BookError) → OnOk r (AddedOne v w (Shut (moment_for v.core.past moment))) → IsErrOf r why.Down ↔ IsSome v.trouble → IfErr r (λ e. e ≡ why.Down) → OnErr r (w ≡ v) → HasEndedInput moment v w
has_ended {D} {T} moment v w (Ok u) added down only left = record {
  brought = brought_end moment v w added;
  same = λ n. same_end moment n v w added;
  shut = λ up. ap is_shut added.past;
  change = ap (λ (b : BookState D T). change_of b.trouble) added.rest;
}
has_ended {D} {T} moment v w (Err e) added down only left = record {
  brought = brought_nothing moment v w left;
  same = λ n. same_nothing n v w left;
  shut = λ up. absurd (let clash : true ≡ false = sym (down.0 (ap Err only)) ∙ sym (ap (λ (b : BookState D T). is_down b) left) ∙ up in cc);
  change = ap (λ (b : BookState D T). change_of b.trouble) left;
}
