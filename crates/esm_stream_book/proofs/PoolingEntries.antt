-- Entries that a batcher adds: whose they are, at which moment, and what they leave of the records told.
use Rattle.std.proofs.Common.{◌≡◌, ℕ, suc, ◌+◌, ◌*◌, List, [], ◌∷◌, ◌++◌, map, refl, sym, ap, ap₂, ◌∙◌, subst, Some, append_assoc, append-nil, arith}
use Rattle.std.specs.Prelude.{◌==◌, ⊤, max}
use Rattle.std.specs.List.{position_or_len}
use Rattle.esm_model.specs.declared.config.Config.{Config}
use Rattle.esm_model.specs.Records.{Record}
use Rattle.esm_model.specs.declared.lane.LaneId.{LaneId}
use Rattle.esm_model.specs.declared.setup.Setup.{Setup}
use Rattle.esm_model.specs.declared.setup.Told.{Told}
use Rattle.esm_model.specs.declared.entry.Entry.{Entry}
use Rattle.esm_model.specs.declared.entry.Entry.TheVariants.{Came, Began, Ended, Gave, Tried, Closed, Replayed, Shut}
use Rattle.esm_model.specs.Setting.{Setting, Stream}
use Rattle.esm_model.specs.Moment.{capped_moment}
use Rattle.esm_model.specs.Entries.{moment_of, last_moment, shards_that_came, batcher}
use Rattle.esm_model.specs.Kept.{AllBy}
use Rattle.esm_model.specs.Books.{entries_told, came_with, records_told, stream_told, streams_told, setting_told, lane_of_entry, seat_of, author}
use Rattle.esm_model.proofs.TellingFacts.{entries_more, records-append}
use Rattle.esm_model.specs.GoingOn.{AllAt}
use Rattle.esm_stream_core.specs.Told.{covered, told_entries}

-- the entry is of a lane that the batcher serves, and has the moment
pub record IsOwn (s : Setting) (h : List Entry) (k m : ℕ) (e : Entry) : Type 0 where
  pub lane : LaneId
  pub of_lane : lane_of_entry e ≡ Some lane
  pub served : batcher s h lane ≡ k
  pub at : moment_of e ≡ m

abbrev pub AreOwn : Setting → List Entry → ℕ → ℕ → List Entry → Type 0
AreOwn s h k m [] = ⊤
AreOwn s h k m (e ∷ es) = IsOwn s h k m e × AreOwn s h k m es

-- as the entry is told
abbrev as_told : Setting → Entry → Told
as_told z e = record { entry = e; records = covered z e; messages = [] }

-- no shard comes by it

shards_same : (e : Entry) (lane : LaneId) (h : List Entry) → lane_of_entry e ≡ Some lane → shards_that_came (e ∷ h) ≡ shards_that_came h
shards_same (Came n first count m) lane h is = absurd (cc)
shards_same (Began at places closing m) lane h is = refl
shards_same (Ended at reply m) lane h is = refl
shards_same (Gave by n places f line state m) lane h is = refl
shards_same (Tried at places closing t m) lane h is = refl
shards_same (Closed at w m) lane h is = refl
shards_same (Replayed n places m) lane h is = refl
shards_same (Shut m) lane h is = refl

shards_more : (H : List Told) (t : Told) (lane : LaneId) → lane_of_entry t.entry ≡ Some lane → shards_that_came (entries_told (H ++ t ∷ [])) ≡ shards_that_came (entries_told H)
shards_more H t lane is = ap shards_that_came (entries_more H t) ∙ shards_same t.entry lane (entries_told H) is

-- so the lanes have the same batchers
pub same_batcher : (s z : Setting) (h g : List Entry) (lane : LaneId) → z.config ≡ s.config → shards_that_came g ≡ shards_that_came h → batcher z g lane ≡ batcher s h lane
same_batcher s z h g lane config shards = ap₂ (λ (ns : List ℕ) (c : Config). position_or_len (λ n. n == lane.shard) ns * c.factor + lane.lane) shards config

-- authors

author_is : (setup : Setup) (s : Setting) (h : List Entry) (k m : ℕ) (H : List Told) (t : Told) → setup.config ≡ s.config → shards_that_came (entries_told H) ≡ shards_that_came h → IsOwn s h k m t.entry → author setup H t ≡ k + 1
author_is setup s h k m H t config shards own =
    let mine : batcher (setting_told setup H) (entries_told H) own.lane ≡ k = same_batcher s (setting_told setup H) h (entries_told H) own.lane config shards ∙ own.served in
    let seat : suc k ≡ k + 1 = omega arith in
    ap (seat_of (setting_told setup H) (entries_told H)) own.of_lane ∙ ap suc mine ∙ seat

pub all_own : (setup : Setup) (z s : Setting) (h : List Entry) (k m : ℕ) (H : List Told) (es : List Entry) → setup.config ≡ s.config → shards_that_came (entries_told H) ≡ shards_that_came h → AreOwn s h k m es → AllBy (author setup) (k + 1) H (told_entries z es)
all_own setup z s h k m H [] config shards own = tt
all_own setup z s h k m H (e ∷ es) config shards own = (
  author_is setup s h k m H (as_told z e) config shards own.0,
  all_own setup z s h k m (H ++ as_told z e ∷ []) es config (shards_more H (as_told z e) own.0.lane own.0.of_lane ∙ shards) own.1,
)

-- moments

again : (m last t : ℕ) → m ≡ capped_moment (max t last) → m ≡ capped_moment (max t m)
again m last t is = grind (arith, is)

pub all_at : (z s : Setting) (h : List Entry) (k m t : ℕ) (H : List Told) (es : List Entry) → m ≡ capped_moment (max t (last_moment (entries_told H))) → AreOwn s h k m es → AllAt t H (told_entries z es)
all_at z s h k m t H [] is own = tt
all_at z s h k m t H (e ∷ es) is own =
    let last : last_moment (entries_told (H ++ as_told z e ∷ [])) ≡ m = ap last_moment (entries_more H (as_told z e)) ∙ own.0.at in (
      own.0.at ∙ is,
      all_at z s h k m t (H ++ as_told z e ∷ []) es (subst (λ l. m ≡ capped_moment (max t l)) (sym last) (again m (last_moment (entries_told H)) t is)) own.1,
    )

-- records

none_with : (n : ℕ) (rs : List Record) (e : Entry) (lane : LaneId) → lane_of_entry e ≡ Some lane → came_with n rs e ≡ []
none_with n rs (Came k first count m) lane is = absurd (cc)
none_with n rs (Began at places closing m) lane is = refl
none_with n rs (Ended at reply m) lane is = refl
none_with n rs (Gave by k places f line state m) lane is = refl
none_with n rs (Tried at places closing t m) lane is = refl
none_with n rs (Closed at w m) lane is = refl
none_with n rs (Replayed k places m) lane is = refl
none_with n rs (Shut m) lane is = refl

each_same : (f g : ℕ → Stream) (ns : List ℕ) → ((n : ℕ) → f n ≡ g n) → map f ns ≡ map g ns
each_same f g [] same = refl
each_same f g (n ∷ ns) same = ap₂ (λ (x : Stream) (xs : List Stream). x ∷ xs) (same n) (each_same f g ns same)

streams_more : (H : List Told) (t : Told) (lane : LaneId) → lane_of_entry t.entry ≡ Some lane → streams_told (H ++ t ∷ []) ≡ streams_told H
streams_more H t lane is =
    let records : (n : ℕ) → records_told n (H ++ t ∷ []) ≡ records_told n H = λ n.
    records-append n H (t ∷ []) ∙ ap (λ (rs : List Record). records_told n H ++ (rs ++ [])) (none_with n t.records t.entry lane is) ∙ append-nil (records_told n H) in
    each_same (stream_told (H ++ t ∷ [])) (stream_told H) (shards_that_came (entries_told (H ++ t ∷ []))) (λ n. ap (λ (rs : List Record). record { shard = n; records = rs }) (records n))
    ∙ ap (λ (ns : List ℕ). map (stream_told H) ns) (shards_more H t lane is)

pub streams_own : (z s : Setting) (h : List Entry) (k m : ℕ) (H : List Told) (es : List Entry) → AreOwn s h k m es → streams_told (H ++ told_entries z es) ≡ streams_told H
streams_own z s h k m H [] own = ap streams_told (append-nil H)
streams_own z s h k m H (e ∷ es) own =
    ap streams_told (sym (append_assoc H (as_told z e ∷ []) (told_entries z es)))
    ∙ streams_own z s h k m (H ++ as_told z e ∷ []) es own.1
    ∙ streams_more H (as_told z e) own.0.lane own.0.of_lane
