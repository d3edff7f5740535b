-- What the reader knows of a shared history: the records that came stay while batchers add entries.
use Rattle.std.proofs.Common.{◌≡◌, ℕ, Bool, true, false, ◌||◌, List, [], ◌∷◌, ◌++◌, refl, ap, ◌∙◌, Option, Some, None}
use Rattle.std.specs.Prelude.{map}
use Rattle.std.proofs.lemmas.List.{append-nil}
use Rattle.std.proofs.lemmas.List.Folds.{list_any-append}
use Rattle.esm_model.specs.Records.{Record}
use Rattle.esm_model.specs.declared.lane.LaneId.{LaneId}
use Rattle.esm_model.specs.declared.setup.Setup.{Setup}
use Rattle.esm_model.specs.declared.setup.Told.{Told}
use Rattle.esm_model.specs.declared.entry.Entry.{Entry}
use Rattle.esm_model.specs.declared.entry.Entry.TheVariants.{Came, Began, Ended, Gave, Tried, Closed, Replayed, Shut}
use Rattle.esm_model.specs.Entries.{is_shut, is_shut_entry}
use Rattle.esm_model.specs.Kept.{entries_after}
use Rattle.esm_model.specs.Books.{entries_told, setting_told, came_with, records_told, lane_of_entry, seat_of, author, stream_may_follow}
use Rattle.esm_model.proofs.TellingFacts.{entries-append, records-append}
use Rattle.esm_model.specs.Coming.{StayAsTheyAre}
use Rattle.esm_model.specs.GoingOn.{OthersFollow}
use Rattle.esm_stream_book.specs.Items.{item_of, items_told}
use Rattle.esm_stream_book.proofs.Onward.{first_else}

-- an entry of a lane has no records
lane_records : (n : ℕ) (rs : List Record) (e : Entry) (lane : LaneId) → lane_of_entry e ≡ Some lane → came_with n rs e ≡ []
lane_records n rs (Came k first count m) lane is = absurd (cc)
lane_records n rs (Began l places closing m) lane is = refl
lane_records n rs (Ended l reply m) lane is = refl
lane_records n rs (Gave by k places f line state m) lane is = refl
lane_records n rs (Tried l places closing t m) lane is = refl
lane_records n rs (Closed l w m) lane is = refl
lane_records n rs (Replayed k places m) lane is = refl
lane_records n rs (Shut m) lane is = refl

has_lane : (setup : Setup) (h : List Told) (t : Told) (o : Option LaneId) → lane_of_entry t.entry ≡ o → (author setup h t ≡ 0 → ⊥) → (lane : LaneId) × (lane_of_entry t.entry ≡ Some lane)
has_lane setup h t None is other = absurd (other (ap (seat_of (setting_told setup h) (entries_told h)) is))
has_lane setup h t (Some lane) is other = (lane, is)

-- histories without an entry of the reader tell no records
none_came : (setup : Setup) (n : ℕ) (h es : List Told) → entries_after (author setup) 0 h es ≡ [] → records_told n es ≡ []
none_came setup n h [] none = refl
none_came setup n h (t ∷ es) none =
    let parts = first_else setup 0 h t es none in
    let lane = has_lane setup h t (lane_of_entry t.entry) refl parts.0 in
    ap (λ l. l ++ records_told n es) (lane_records n t.records t.entry lane.0 lane.1) ∙ none_came setup n (h ++ t ∷ []) es parts.1

pub same_records : (setup : Setup) (n : ℕ) (seen rest : List Told) → entries_after (author setup) 0 seen rest ≡ [] → records_told n (seen ++ rest) ≡ records_told n seen
same_records setup n seen rest none = records-append n seen rest ∙ ap (λ l. records_told n seen ++ l) (none_came setup n seen rest none) ∙ append-nil (records_told n seen)

pub items_last : (setup : Setup) (h es : List Told) → OthersFollow author stream_may_follow setup 0 h es → StayAsTheyAre (items_told h) (items_told (h ++ es))
items_last setup h es follow n = ap (map item_of) (same_records setup n h es follow.others)

-- nor do they end the input

lane_shut : (e : Entry) (lane : LaneId) → lane_of_entry e ≡ Some lane → is_shut_entry e ≡ false
lane_shut (Came k first count m) lane is = refl
lane_shut (Began l places closing m) lane is = refl
lane_shut (Ended l reply m) lane is = refl
lane_shut (Gave by k places f line state m) lane is = refl
lane_shut (Tried l places closing t m) lane is = refl
lane_shut (Closed l w m) lane is = refl
lane_shut (Replayed k places m) lane is = refl
lane_shut (Shut m) lane is = absurd (cc)

shut_both : (xs ys : List Told) → is_shut (entries_told (xs ++ ys)) ≡ (is_shut (entries_told ys) || is_shut (entries_told xs))
shut_both xs ys = ap is_shut (entries-append xs ys) ∙ list_any-append is_shut_entry (entries_told ys) (entries_told xs)

neither : (a b : Bool) → a ≡ false → b ≡ false → (a || b) ≡ false
neither true b p q = absurd (cc)
neither false b p q = q

none_shut : (setup : Setup) (h es : List Told) → entries_after (author setup) 0 h es ≡ [] → is_shut (entries_told es) ≡ false
none_shut setup h [] none = refl
none_shut setup h (t ∷ es) none =
    let parts = first_else setup 0 h t es none in
    let lane = has_lane setup h t (lane_of_entry t.entry) refl parts.0 in
    shut_both (t ∷ []) es ∙ neither (is_shut (entries_told es)) (is_shut (entries_told (t ∷ []))) (none_shut setup (h ++ t ∷ []) es parts.1) (neither (is_shut_entry t.entry) false (lane_shut t.entry lane.0 lane.1) refl)

pub shut_last : (setup : Setup) (h es : List Told) → OthersFollow author stream_may_follow setup 0 h es → is_shut (entries_told (h ++ es)) ≡ is_shut (entries_told h)
shut_last setup h es follow = shut_both h es ∙ ap (λ b. b || is_shut (entries_told h)) (none_shut setup h es follow.others)
