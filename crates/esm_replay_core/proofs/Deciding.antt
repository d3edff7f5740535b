-- What a core holds after its decisions: the records in one list, the history with its oldest entry first.
use Rattle.std.proofs.Common.{◌≡◌, ℕ, zero, suc, ◌+◌, ◌-◌, Bool, ◌<◌, ◌≤◌, ◌^◌, List, [], ◌∷◌, ◌++◌, length, get_or, take, drop, reverse, refl, sym, ap, ap₂, ◌∙◌, subst, arith, Option, Some, None}
use Rattle.std.specs.Prelude.{max, min, IsSome, IfSome, unwrap_or}
use Rattle.std.specs.List.{All}
use Rattle.std.specs.Ordering.{nat_cmp}
use Rattle.std.specs.Map.{count_at}
use Rattle.std.specs.BTreeMap.{BTreeMap, get}
use Rattle.std.proofs.lemmas.List.Elements.{All-nil, All-head}
use Rattle.std.proofs.lemmas.List.{append-nil, length-append, length-drop, length-reverse, reverse-append, take-append-drop, take-append-le, drop-append-le, length-take-le, take_all}
use Rattle.esm_model.specs.declared.limits.TheConstants.{MAX_BATCH}
use Rattle.esm_model.specs.declared.moment.TheConstants.{MAX_MOMENT}
use Rattle.esm_model.specs.declared.config.Config.{Config}
use Rattle.esm_model.specs.declared.config.Kind.{Kind}
use Rattle.esm_model.specs.Records.{Record}
use Rattle.esm_model.specs.declared.book.Change.{Change}
use Rattle.esm_model.specs.declared.book.Job.{Job}
use Rattle.esm_model.specs.declared.entry.Reply.{Reply}
use Rattle.esm_model.specs.declared.entry.Entry.{Entry}
use Rattle.esm_model.specs.Entries.{calls_begun, last_moment}
use Rattle.esm_model.specs.Valid.{IsValidRecord, IsStreamConfig, HasStreamFields, HasFieldsOf}
use Rattle.esm_book.specs.Decided.{IsRefused}
use Rattle.esm_book.specs.declared.error.Refusal.{Refusal}
use Rattle.esm_book.specs.declared.error.Refusal.TheVariants.{Changed, OutOfMemory}
use Rattle.esm_replay_model.specs.ReplaySetting.{ReplaySetting, replay_config}
use Rattle.esm_replay_model.specs.ReplayReport.{named_count}
use Rattle.esm_replay_model.specs.ReplayRun.{call_out, owed_replay, IsReplay}
use Rattle.esm_replay.specs.Records.{of_shard, names, are_named}
use Rattle.esm_replay.specs.Waiting.{Waiting, NamedPiece, seen_pieces, IsPlaced}
use Rattle.esm_replay_core.specs.declared.decisions.ReplayNext.{ReplayNext}
use Rattle.esm_replay_core.specs.declared.owed.Owed.{Owed}
use Rattle.esm_replay_core.specs.declared.owed.Owed.TheVariants.{Nothing, Coming, Began, Ended, Replayed, Left}
use Rattle.esm_replay_core.specs.declared.ending.Ending.{Ending}
use Rattle.esm_replay_core.specs.View.{ReplayView, setting_of, moment_for, IsJobOut, RunAhead, SaidAhead, owing, paid, forgotten}
use Rattle.esm_replay_core.specs.Deciding.{next_entries, done_entries, done_count}
use Rattle.esm_replay.proofs.Naming.{named_append, named_at}
use Rattle.esm_replay.specs.Coming.{first_change}
use Rattle.esm_replay_core.specs.Counts.{AreCounted, IsRecounted, HasCount, HasOneMore}
use Rattle.esm_replay_core.specs.Ending.{MayEnd, IsEnding}
use Rattle.esm_replay_core.specs.Choosing.{OwesNext, IsReady, IsWaitingFor, StaysWaiting, IsRoomier, HasRoom}
use Rattle.esm_replay_core.specs.Owing.{owed_entries, given_up}
use Rattle.esm_replay_core.specs.Kept.{Parts, IsKept, MayOwe, own, seen_of, setting_for}
use Rattle.esm_replay_core.proofs.Standing.{few_of_shard}
use Rattle.esm_replay_core.proofs.Keeping.{IsSettled, IsStill, IsDecided, entries_still, with_coming, kept_recounted, kept_coming, deciding, kept_waiting, ready_of, moment_is, next_decided}
use Rattle.esm_replay_core.proofs.Closing.{IsEndOf, end_of, may_end, few_out, done_decided, done_counts}
use Rattle.esm_replay_core.proofs.Paying.{IsPaid, one_low, with_entry, with_record, kept_record, seen_record, forgetting, kept_forgotten, seen_forgotten}
use Rattle.esm_replay_core.proofs.Differing.{front_more, rest_less}
use Rattle.esm_replay_core.proofs.Named.{one}
use Rattle.esm_replay_core.proofs.Due.{early_of}
use Rattle.esm_replay_core.proofs.Saying.{all_said}

-- the records in one list

abbrev pub over : Parts → ℕ → List Record → Parts
over p came rs = record p { known = take came rs; coming = drop came rs }

pub whole_of : (came : ℕ) (rs : List Record) → drop came rs ≡ [] → rs ≡ take came rs
whole_of came rs none = sym (take-append-drop came rs) ∙ ap (λ (xs : List Record). take came rs ++ xs) none ∙ append-nil (take came rs)

pub counts_low : (p : Parts) (v : ReplayView) (n : ℕ) → IsKept p → seen_of p ≡ v → length v.records + n < 2 ^ 32 → (q : ℕ) → count_at (get nat_cmp p.counts) q + n < 2 ^ 32
counts_low p v n k seen few q =
    let is = k.counts q in
    let low = few_of_shard q p.known in
    let same : length p.known ≡ length v.records = ap (λ (w : ReplayView). length w.records) seen in
    omega (arith, is, low, same, few)

pub core_recounted : (p : Parts) (came : ℕ) (old new : List Record) (m : BTreeMap ℕ ℕ) → IsKept (over p came old) → IsSettled (over p came old) → came ≤ length old → new ≡ old → IsRecounted p.counts m
    → IsKept (record (over p came new) { counts = m }) × (came ≤ length new)
core_recounted p came old new m k settled low same re =
    subst (λ (rs : List Record). IsKept (record (over p came rs) { counts = m }) × (came ≤ length rs)) (sym same) (kept_recounted (over p came old) m k settled re, low)

-- records come

pub first_is : (p : Parts) (v : ReplayView) (slice items : List Record) (change : Option Change) → IsKept p → seen_of p ≡ v → slice ≡ items → ((before : List Record) → AreCounted p.counts before → change ≡ first_change p.opened.said before slice)
    → change ≡ first_change v.opened.said v.records items
first_is p v slice items change k seen is found =
    found p.known k.counts ∙ ap (first_change p.opened.said p.known) is ∙ ap (λ (w : ReplayView). first_change w.opened.said w.records items) seen

-- of each whether it is named
pub came_all : (p : Parts) (came : ℕ) (old items slice : List Record) (bs more : List Bool) → IsKept (over p came old) → drop came old ≡ [] → slice ≡ items → bs ≡ are_named p.opened.said p.opened.ranges [] old
    → ((before : List Record) → AreCounted p.counts before → more ≡ are_named p.opened.said p.opened.ranges before slice) → bs ++ more ≡ are_named p.opened.said p.opened.ranges [] (old ++ items)
came_all p came old items slice bs more k none is are found =
    ap₂ (λ (xs ys : List Bool). xs ++ ys) are (found (take came old) k.counts ∙ ap₂ (are_named p.opened.said p.opened.ranges) (sym (whole_of came old none)) is)
    ∙ sym (named_append p.opened.said p.opened.ranges [] old items)

pub refused_so : (P Q : Change → Type 0) (r : Refusal) → ((c : Change) → P c → Q c) → IsRefused P r → IsRefused Q r
refused_so P Q (Changed told kept) each is = (each told is.0, is.1)
refused_so P Q OutOfMemory each is = tt

pub record IsComing (p : Parts) (came : ℕ) (rs : List Record) (q : Parts) (v : ReplayView) (items : List Record) : Type 0 where
  pub kept : IsKept q × (came ≤ length rs)
  pub owes : seen_of q ≡ owing v items []

pub core_coming : (p : Parts) (v : ReplayView) (came : ℕ) (old new items : List Record) (m : BTreeMap ℕ ℕ) (owed : Owed) → IsKept (over p came old) → IsSettled (over p came old) → seen_of (over p came old) ≡ v → came ≤ length old → v.past ≡ []
    → new ≡ old ++ items → All IsValidRecord items → length v.records + length items < 2 ^ 32 → IsRecounted p.counts m → All (HasCount m) items → IsStill (drop came new) owed → (w : Option Waiting) → w ≡ None
    → IsComing p came new (record (over p came new) { counts = m; waiting = w; owed = owed }) v items
core_coming p v came old new items m owed k settled seen low early new_is valid few re keys still w cleared =
    let before : Parts = over p came old in
    let front : take came new ≡ take came old = ap (take came) new_is ∙ take-append-le came old items low in
    let rest : drop came new ≡ items = ap (drop came) new_is ∙ drop-append-le came old items low ∙ ap (λ (xs : List Record). xs ++ items) settled.coming in
    let past : p.past ≡ [] = ap (λ (w : ReplayView). w.past) seen ∙ early in
    let same : length before.known ≡ length v.records = ap (λ (w : ReplayView). length w.records) seen in
    let fewer : length before.known + length items < 2 ^ 32 = omega (arith, same, few) in
    let kept : IsKept (with_coming before items m owed) = kept_coming before items m owed k past valid fewer re keys (subst (λ (xs : List Record). IsStill xs owed) rest still) in
    let both : IsKept (with_coming (record p { known = take came new; coming = drop came new }) (drop came new) m owed) =
    subst (λ (xs : List Record). IsKept (record p { known = xs; coming = drop came new; counts = m; waiting = None; owed = owed })) (sym front)
    (subst (λ (xs : List Record). IsKept (record p { known = take came old; coming = xs; counts = m; waiting = None; owed = owed })) (sym rest) kept) in
    subst (λ (x : Option Waiting). IsComing p came new (record (over p came new) { counts = m; waiting = x; owed = owed }) v items) (sym cleared)
    (record {
      kept = (both, (let l : length new ≡ length old + length items = ap (λ (xs : List Record). length xs) new_is ∙ length-append old items in omega arith));
      owes =
          ap (λ (es : List Entry). record { opened = p.opened; records = take came new; past = p.past; coming = drop came new; owed = es }) (entries_still (drop came new) owed still)
          ∙ ap₂ (λ (xs ys : List Record). record { opened = p.opened; records = xs; past = p.past; coming = ys; owed = [] }) front rest
          ∙ ap (λ (w : ReplayView). owing w items []) seen;
    })

-- where nothing was owed, forgetting leads back
pub undone : (v w : ReplayView) (coming : List Record) (es : List Entry) → w ≡ owing v coming es → v.coming ≡ [] → v.owed ≡ [] → forgotten w ≡ v
undone v w coming es is none nothing =
    ap forgotten is ∙ ap₂ (λ (rs : List Record) (xs : List Entry). record { opened = v.opened; records = v.records; past = v.past; coming = rs; owed = xs }) (sym none) (sym nothing)

-- calls

pub waits_after : (p : Parts) (slice : List Record) (new : Option Waiting) → IsKept p → slice ≡ p.known → StaysWaiting p.opened.said p.opened.ranges slice p.waiting new → IsWaitingFor (own p) p.known p.past new
waits_after p slice new k is stays = (subst (λ (rs : List Record). StaysWaiting p.opened.said p.opened.ranges rs p.waiting new) is stays) p.opened.config p.opened.calls p.past k.waiting

pub ready_for : (p : Parts) (slice : List Record) (o : Option Waiting) (w : Waiting) → IsKept p → slice ≡ p.known → o ≡ Some w → IsWaitingFor (own p) p.known p.past o → IsReady (own p) p.past p.opened.config p.opened.calls p.begun slice w
ready_for p slice o w k is there waits =
    subst (λ (rs : List Record). IsReady (own p) p.past p.opened.config p.opened.calls p.begun rs w) (sym is) (ready_of p w k (subst (IsWaitingFor (own p) p.known p.past) there waits))

-- the parts after a decision, the entries of whose history stand so, oldest first
abbrev pub left_with : Parts → Option Waiting → ℕ → List Entry → Owed → Parts
left_with p w capacity items owed = record p { waiting = w; capacity = capacity; past = reverse items; owed = owed }

pub left_is : (p : Parts) (w : Option Waiting) (capacity : ℕ) (old new : List Entry) (owed : Owed) → p.past ≡ reverse old → new ≡ old → left_with p w capacity new owed ≡ deciding p w capacity owed
left_is p w capacity old new owed past_is same =
    ap (λ (h : List Entry). record p { waiting = w; capacity = capacity; past = h; owed = owed }) (ap (λ (es : List Entry). reverse es) same ∙ sym past_is)

-- nothing was decided
pub core_waiting : (p : Parts) (w : Option Waiting) (capacity : ℕ) (old new : List Entry) → IsKept p → IsSettled p → p.owed ≡ Nothing → p.past ≡ reverse old → new ≡ old → IsWaitingFor (own p) p.known p.past w
    → IsKept (record p { waiting = w; capacity = capacity; past = reverse new })
core_waiting p w capacity old new k settled is past_is same waits =
    subst (λ (h : List Entry). IsKept (record p { waiting = w; capacity = capacity; past = h })) (past_is ∙ ap (λ (es : List Entry). reverse es) (sym same)) (kept_waiting p w capacity k settled.coming is waits)

-- a decision was made
pub record IsDone (q : Parts) (v : ReplayView) (es : List Entry) : Type 0 where
  pub kept : IsKept q
  pub owes : seen_of q ≡ owing v [] es
  pub run : RunAhead (seen_of q)

pub core_decided : (p : Parts) (v : ReplayView) (w : Option Waiting) (capacity : ℕ) (old new : List Entry) (owed : Owed) (es fs : List Entry) → seen_of p ≡ v → p.past ≡ reverse old → new ≡ old → es ≡ fs
    → IsDecided (deciding p w capacity owed) (seen_of p) es → IsDone (left_with p w capacity new owed) v fs
core_decided p v w capacity old new owed es fs seen past_is same is decided =
    subst (λ (q : Parts). IsDone q v fs) (sym (left_is p w capacity old new owed past_is same))
    (record { kept = decided.kept; owes = decided.owes ∙ ap₂ (λ (u : ReplayView) (xs : List Entry). owing u [] xs) seen is; run = decided.run })

-- an entry is pushed
pub past_more : (old new : List Entry) (e : Entry) → new ≡ old ++ e ∷ [] → reverse new ≡ e ∷ reverse old
past_more old new e is = ap (λ (es : List Entry). reverse es) is ∙ reverse-append old (e ∷ [])

-- an entry is pushed, and the rest is as it is paid
pub record IsPushed (q : Parts) (v : ReplayView) : Type 0 where
  pub kept : IsKept q
  pub seen : seen_of q ≡ paid v

abbrev pub pushed_with : Parts → Option Waiting → List (List ℕ) → List Entry → ℕ → ℕ → ℕ → Owed → Parts
pushed_with p w names items capacity last begun owed = record p { waiting = w; names = names; past = reverse items; capacity = capacity; last = last; begun = begun; owed = owed }

pub core_pushed : (p : Parts) (v : ReplayView) (e : Entry) (w : Option Waiting) (names : List (List ℕ)) (last begun : ℕ) (owed put : Owed) (old new : List Entry) (capacity : ℕ) → IsPaid (with_entry p e w names last begun owed) p → seen_of p ≡ v
    → p.past ≡ reverse old → new ≡ old ++ e ∷ [] → capacity ≡ p.capacity → put ≡ owed → IsPushed (pushed_with p w names new capacity last begun put) v
core_pushed p v e w names last begun owed put old new capacity done seen past_is more same put_is =
    let past : reverse new ≡ e ∷ p.past = past_more old new e more ∙ ap (λ (h : List Entry). e ∷ h) (sym past_is) in
    subst (λ (o : Owed). IsPushed (pushed_with p w names new capacity last begun o) v) (sym put_is)
    (subst (λ (h : List Entry). IsPushed (record p { waiting = w; names = names; past = h; capacity = capacity; last = last; begun = begun; owed = owed }) v) (sym past)
    (subst (λ (n : ℕ). IsPushed (record p { waiting = w; names = names; past = e ∷ p.past; capacity = n; last = last; begun = begun; owed = owed }) v) (sym same)
    (record { kept = done.kept; seen = done.seen ∙ ap paid seen })))

-- whole calls

pub next_done : (p : Parts) (v : ReplayView) (w : Option Waiting) (capacity : ℕ) (old new : List Entry) (answer : ReplayNext) (owed : Owed) (now moment : ℕ) → IsKept p → seen_of p ≡ v → IsSettled p → p.owed ≡ Nothing → IsWaitingFor (own p) p.known p.past w → IsSome w
    → (call_out v.past).places ≡ [] → p.past ≡ reverse old → new ≡ old → length old + 1 ≤ capacity → now ≡ min (max moment p.last) MAX_MOMENT → OwesNext (own p) p.past now answer owed
    → IsDone (left_with p w capacity new owed) v (next_entries answer (moment_for v.past moment))
next_done p v w capacity old new answer owed now moment k seen settled is waits there rests past_is same room now_is owes =
    let long : length p.past ≡ length old = ap (λ (es : List Entry). length es) past_is ∙ length-reverse old in
    let wide : length p.past + 1 ≤ capacity = omega (arith, long, room) in
    let out : (call_out p.past).places ≡ [] = ap (λ (u : ReplayView). (call_out u.past).places) seen ∙ rests in
    core_decided p v w capacity old new owed (next_entries answer now) (next_entries answer (moment_for v.past moment)) seen past_is same
    (ap (next_entries answer) (moment_is p now moment k now_is ∙ ap (λ (u : ReplayView). moment_for u.past moment) seen))
    (next_decided p w capacity k settled.coming is waits there answer owed now moment out wide now_is owes)

pub waits_roomier : (s : ReplaySetting) (rs : List Record) (h : List Entry) (o o' : Option Waiting) → IsRoomier o o' → IsWaitingFor s rs h o → IsWaitingFor s rs h o'
waits_roomier s rs h None o' same waits = subst (IsWaitingFor s rs h) (sym same) waits
waits_roomier s rs h (Some w) None same waits = absurd same
waits_roomier s rs h (Some w) (Some w') same waits = (
  ap (λ (ps : List NamedPiece). seen_pieces ps) same ∙ waits.0,
  subst (λ (ps : List NamedPiece). All (IsPlaced s rs) ps) (sym same) waits.1,
)

-- the same waits, with room
pub record IsWide (w : Waiting) (o : Option Waiting) : Type 0 where
  pub own : Waiting
  pub is : o ≡ Some own
  pub pieces : own.pieces ≡ w.pieces
  pub room : 2 ≤ own.room

pub wide_of : (w : Waiting) (o o' : Option Waiting) → o ≡ Some w → IsRoomier o o' → IfSome o' HasRoom → IsWide w o'
wide_of w o o' is roomier room = by_new o' (subst (λ (x : Option Waiting). IsRoomier x o') is roomier) room
  where
    by_new : (x : Option Waiting) → IsRoomier (Some w) x → IfSome x HasRoom → IsWide w x
    by_new None roomier room = absurd roomier
    by_new (Some w') roomier room = record { own = w'; is = refl; pieces = roomier; room = room }

pub job_in : (p : Parts) (v : ReplayView) (job : Job) → seen_of p ≡ v → IsJobOut v.past job → IsJobOut p.past job
job_in p v job seen out = subst (λ (u : ReplayView). IsJobOut u.past job) (sym seen) out

pub done_done : (p : Parts) (v : ReplayView) (w : Waiting) (o : Option Waiting) (capacity : ℕ) (old new : List Entry) (job : Job) (reply : Reply) (ending : Ending) (count now moment : ℕ) → IsKept p → seen_of p ≡ v → IsSettled p → p.waiting ≡ Some w → IsJobOut v.past job → IsWide w o
    → p.past ≡ reverse old → new ≡ old → length old + 2 ≤ capacity → now ≡ min (max moment p.last) MAX_MOMENT → count ≡ length p.names → IsEnding p.opened.config w p.names job.lane.shard job.places reply now ending
    → IsDone (left_with p o capacity new (Ended job.lane reply now count ending.parts ending.replay)) v (done_entries (setting_of v) v.past job.lane reply (moment_for v.past moment))
done_done p v w o capacity old new job reply ending count now moment k seen settled waits_is out wide past_is same room now_is count_is is =
    let here : IsJobOut p.past job = job_in p v job seen out in
    let e : IsEndOf p w reply now = end_of p w job reply now moment k waits_is here now_is in
    let long : length p.past ≡ length old = ap (λ (es : List Entry). length es) past_is ∙ length-reverse old in
    let more : length p.past + 2 ≤ capacity = omega (arith, long, room) in
    let owed : Owed = Ended job.lane reply now count ending.parts ending.replay in
    subst (λ (x : Option Waiting). IsDone (left_with p x capacity new owed) v (done_entries (setting_of v) v.past job.lane reply (moment_for v.past moment))) (sym wide.is)
    (core_decided p v (Some wide.own) capacity old new owed (done_entries (own p) p.past job.lane reply now) (done_entries (setting_of v) v.past job.lane reply (moment_for v.past moment)) seen past_is same
    (ap (done_entries (own p) p.past job.lane reply) (moment_is p now moment k now_is) ∙ ap (λ (u : ReplayView). done_entries (setting_of u) u.past job.lane reply (moment_for u.past moment)) seen)
    (done_decided p w reply now k e wide.own capacity count job ending here settled.coming wide.pieces wide.room more count_is is))

-- what is owed is given up

drop_all : (n : ℕ) (rs : List Record) → length rs ≤ n → drop n rs ≡ []
drop_all zero [] high = refl
drop_all (suc n) [] high = refl
drop_all zero (r ∷ rs) high = absurd (omega arith)
drop_all (suc n) (r ∷ rs) high = drop_all n rs (omega arith)

pub record IsForgotten (p : Parts) (came : ℕ) (rs : List Record) (q : Parts) (v : ReplayView) : Type 0 where
  pub kept : IsKept q × (came ≤ length rs)
  pub seen : seen_of q ≡ forgotten v

pub core_forgotten : (p : Parts) (v : ReplayView) (came : ℕ) (old new : List Record) (owed : Owed) → IsKept (over p came old) → seen_of (over p came old) ≡ v → came ≤ length old → new ≡ take came old → owed ≡ given_up p.owed
    → IsForgotten p came new (record (over p came new) { owed = owed }) v
core_forgotten p v came old new owed k seen low new_is owed_is =
    let long : length new ≡ came = ap (λ (rs : List Record). length rs) new_is ∙ length-take-le came old low in
    let front : take came new ≡ take came old = take_all came new (omega (arith, long)) ∙ new_is in
    let rest : drop came new ≡ [] = drop_all came new (omega (arith, long)) in
    let q : Parts = record (over p came new) { owed = owed } in
    let same : q ≡ forgetting (over p came old) =
    ap₂ (λ (xs ys : List Record). record p { known = xs; coming = ys; owed = owed }) front rest ∙ ap (λ (o : Owed). record p { known = take came old; coming = []; owed = o }) owed_is in
    record {
      kept = (subst IsKept (sym same) (kept_forgotten (over p came old) k), omega (arith, long));
      seen = ap seen_of same ∙ seen_forgotten (over p came old) ∙ ap forgotten seen;
    }

-- a record comes

pub record IsCame (came : ℕ) (rs : List Record) (q : Parts) (v : ReplayView) : Type 0 where
  pub kept : IsKept q × (came ≤ length rs)
  pub seen : seen_of q ≡ paid v

pub core_record : (p : Parts) (v : ReplayView) (came : ℕ) (rs : List Record) (r : Record) (m : BTreeMap ℕ ℕ) (more : ℕ) (owed : Owed) → IsKept (over p came rs) → seen_of (over p came rs) ≡ v → p.owed ≡ Coming → came < length rs → r ≡ get_or rs came r → HasOneMore r.shard p.counts m
    → more ≡ one (names p.opened.said p.opened.ranges r (count_at (get nat_cmp p.counts) r.shard)) → IsStill (drop (came + 1) rs) owed
    → IsCame (came + 1) rs (record (over p (came + 1) rs) { counts = m; named = p.named + more; owed = owed }) v
core_record p v came rs r m more owed k seen is low at counted more_is still =
    let front : take (came + 1) rs ≡ take came rs ++ r ∷ [] = front_more rs came r low at in
    let next : drop came rs ≡ r ∷ drop (came + 1) rs = rest_less rs came r low at in
    let named : p.named + more ≡ p.named + one (names p.opened.said p.opened.ranges r (count_at (get nat_cmp p.counts) r.shard)) = ap (λ (n : ℕ). p.named + n) more_is in
    let kept : IsKept (with_record (over p came rs) r (drop (came + 1) rs) m (p.named + more) owed) = kept_record (over p came rs) r (drop (came + 1) rs) m (p.named + more) owed k is next counted named still in
    let there : seen_of (with_record (over p came rs) r (drop (came + 1) rs) m (p.named + more) owed) ≡ paid (seen_of (over p came rs)) = seen_record (over p came rs) r (drop (came + 1) rs) m (p.named + more) owed k is next counted named still in
    record {
      kept = (subst (λ (xs : List Record). IsKept (record p { known = xs; coming = drop (came + 1) rs; counts = m; named = p.named + more; owed = owed })) (sym front) kept, omega arith);
      seen = ap (λ (xs : List Record). seen_of (record p { known = xs; coming = drop (came + 1) rs; counts = m; named = p.named + more; owed = owed })) front ∙ there ∙ ap paid seen;
    }

-- it stands behind those that came
pub came_low : (p : Parts) (came : ℕ) (rs : List Record) → IsKept (over p came rs) → p.owed ≡ Coming → came < length rs
came_low p came rs k is =
    let some : 1 ≤ length (drop came rs) = (subst (MayOwe (over p came rs)) is k.owed).0 in
    let long : length (drop came rs) ≡ length rs - came = length-drop came rs in
    omega arith

-- its shard has a count
pub came_counted : (p : Parts) (came : ℕ) (rs : List Record) (r : Record) → IsKept (over p came rs) → came < length rs → r ≡ get_or rs came r → HasCount p.counts r
came_counted p came rs r k low at = All-head (HasCount p.counts) r (drop (came + 1) rs) (subst (All (HasCount p.counts)) (rest_less rs came r low at) k.keys)

-- which has room for one more
pub came_few : (p : Parts) (came : ℕ) (rs : List Record) (q : ℕ) → IsKept (over p came rs) → came < length rs → count_at (get nat_cmp p.counts) q < 4294967295
came_few p came rs q k low =
    let is : count_at (get nat_cmp p.counts) q ≡ length (of_shard q (take came rs)) = k.counts q in
    let few : length (of_shard q (take came rs)) ≤ length (take came rs) = few_of_shard q (take came rs) in
    let long : length (drop came rs) ≡ length rs - came = length-drop came rs in
    let all : length (take came rs) + length (drop came rs) < 2 ^ 32 = k.few in
    omega arith

-- and it is known whether it is named
pub came_named : (p : Parts) (came : ℕ) (rs : List Record) (bs : List Bool) (r : Record) (b : Bool) → IsKept (over p came rs) → came < length rs → r ≡ get_or rs came r → bs ≡ are_named p.opened.said p.opened.ranges [] rs → b ≡ get_or bs came b
    → b ≡ names p.opened.said p.opened.ranges r (count_at (get nat_cmp p.counts) r.shard)
came_named p came rs bs r b k low at are is =
    named_at p.opened.said p.opened.ranges [] rs came r b low at (is ∙ ap (λ (xs : List Bool). get_or xs came b) are)
    ∙ ap (names p.opened.said p.opened.ranges r) (sym (k.counts r.shard))

pub named_fits : (p : Parts) (came : ℕ) (rs : List Record) (b : Bool) (more : ℕ) → IsKept (over p came rs) → came < length rs → more ≡ one b → p.named + more < 2 ^ 32
named_fits p came rs b more k low more_is =
    let up : one b ≤ 1 = one_low b in
    let few : p.named ≤ length (take came rs) = k.named_few in
    let long : length (drop came rs) ≡ length rs - came = length-drop came rs in
    let all : length (take came rs) + length (drop came rs) < 2 ^ 32 = k.few in
    omega arith

-- a call that is out waits to end
pub not_idle : (p : Parts) (v : ReplayView) (job : Job) → IsKept p → seen_of p ≡ v → IsJobOut v.past job → p.waiting ≡ None → ⊥
not_idle p v job k seen out none =
    let here : IsJobOut p.past job = job_in p v job seen out in
    let early : p.past ≡ [] = subst (IsWaitingFor (own p) p.known p.past) none k.waiting in
    let places : job.places ≡ [] = here.places ∙ ap (λ (h : List Entry). (call_out h).places) early in
    let some : 1 ≤ length job.places = here.some in
    let long : length job.places ≡ 0 = ap (λ (xs : List ℕ). length xs) places in
    omega arith

-- the call that is out may end
pub out_may_end : (p : Parts) (v : ReplayView) (w : Waiting) (job : Job) (reply : Reply) (now moment : ℕ) → IsKept p → seen_of p ≡ v → p.waiting ≡ Some w → IsJobOut v.past job → now ≡ min (max moment p.last) MAX_MOMENT → MayEnd p.opened.config w p.names job.lane.shard job.places reply now
out_may_end p v w job reply now moment k seen waits_is out now_is =
    let here : IsJobOut p.past job = job_in p v job seen out in
    may_end p w reply now k (end_of p w job reply now moment k waits_is here now_is) job here

pub few_names : (p : Parts) (v : ReplayView) (w : Waiting) (job : Job) (reply : Reply) (now moment : ℕ) → IsKept p → seen_of p ≡ v → p.waiting ≡ Some w → IsJobOut v.past job → now ≡ min (max moment p.last) MAX_MOMENT → length p.names ≤ MAX_BATCH
few_names p v w job reply now moment k seen waits_is out now_is =
    let here : IsJobOut p.past job = job_in p v job seen out in
    let e : IsEndOf p w reply now = end_of p w job reply now moment k waits_is here now_is in
    subst (λ (n : ℕ). n ≤ MAX_BATCH) (sym e.long) (few_out p w reply now k e)

pub out_counts : (p : Parts) (v : ReplayView) (w : Waiting) (job : Job) (reply : Reply) (ending : Ending) (now moment : ℕ) → IsKept p → seen_of p ≡ v → p.waiting ≡ Some w → IsJobOut v.past job → now ≡ min (max moment p.last) MAX_MOMENT
    → IsEnding p.opened.config w p.names job.lane.shard job.places reply now ending → ending.succeeded ≡ done_count (setting_of v) v.past reply
out_counts p v w job reply ending now moment k seen waits_is out now_is is =
    let here : IsJobOut p.past job = job_in p v job seen out in
    done_counts p w reply now k (end_of p w job reply now moment k waits_is here now_is) ending job.lane.shard job.places is
    ∙ ap (λ (u : ReplayView). done_count (setting_of u) u.past reply) seen

-- what is true of each core

pub run_of : (p : Parts) (v : ReplayView) → IsKept p → seen_of p ≡ v → IsReplay (setting_of v) v.past
run_of p v k seen = subst (λ (u : ReplayView). IsReplay (setting_of u) u.past) seen k.run

-- so it is with all that is owed
ahead_by : (p : Parts) (o : Owed) → IsKept p → MayOwe p o → IsReplay (own p) (reverse (owed_entries o) ++ p.past)
ahead_by p Nothing k may = k.run
ahead_by p Coming k may = k.run
ahead_by p (Began lane places names moment) k may = may.run
ahead_by p (Ended lane reply moment count parts None) k may = may.run
ahead_by p (Ended lane reply moment count parts (Some r)) k may = may.run
ahead_by p (Replayed r) k may = may.run
ahead_by p Left k may = k.run

pub ahead_of : (p : Parts) (v : ReplayView) → IsKept p → seen_of p ≡ v → RunAhead v
ahead_of p v k seen = subst RunAhead seen (ahead_by p p.owed k k.owed)

pub sayable_of : (p : Parts) (v : ReplayView) → IsKept p → seen_of p ≡ v → SaidAhead v
sayable_of p v k seen =
    let few = k.few in
    let known : length p.known < 2 ^ 32 = omega arith in
    subst SaidAhead seen (all_said p.opened p.known (reverse (owed_entries p.owed) ++ p.past) k.valid known (ahead_by p p.owed k k.owed))

pub valid_of : (p : Parts) (v : ReplayView) → IsKept p → seen_of p ≡ v → All IsValidRecord v.records
valid_of p v k seen = subst (λ (u : ReplayView). All IsValidRecord u.records) seen k.valid

pub time_of : (p : Parts) (v : ReplayView) → IsKept p → seen_of p ≡ v → last_moment v.past ≤ MAX_MOMENT
time_of p v k seen = subst (λ (u : ReplayView). last_moment u.past ≤ MAX_MOMENT) seen (subst (λ (n : ℕ). n ≤ MAX_MOMENT) k.last k.in_time)

pub early_in : (p : Parts) (v : ReplayView) → IsKept p → seen_of p ≡ v → 1 ≤ length v.coming → v.past ≡ []
early_in p v k seen = subst (λ (u : ReplayView). 1 ≤ length u.coming → u.past ≡ []) seen (early_of p k)

-- a core in which no record came

kind_fields : (config : Config) → IsStreamConfig config → HasFieldsOf config.kind (replay_config config)
kind_fields config is =
    let f : HasStreamFields config = subst (λ (kind : Kind). HasFieldsOf kind config) is.kind is.valid.fields in
    subst (λ (kind : Kind). HasFieldsOf kind (replay_config config)) (sym is.kind) (record {
      factor = f.factor;
      retries = refl;
      age = f.age;
      tumbling = refl;
      one_lane = refl;
      start = f.start;
      destination = f.destination;
      concurrency = f.concurrency;
    })

replay_stream : (config : Config) → IsStreamConfig config → IsStreamConfig (replay_config config)
replay_stream config is = record {
  kind = is.kind;
  valid = record {
    region = is.valid.region;
    account = is.valid.account;
    source = is.valid.source;
    function = is.valid.function;
    function_arn = is.valid.function_arn;
    batch_size = is.valid.batch_size;
    window = is.valid.window;
    filters = is.valid.filters;
    fields = kind_fields config is;
  };
}

pub kept_new : (p : Parts) (config : Config) → IsStreamConfig config → p.opened.config ≡ replay_config config → p.known ≡ [] → p.coming ≡ [] → ((q : ℕ) → get nat_cmp p.counts q ≡ None) → p.named ≡ 0 → p.waiting ≡ None → p.past ≡ [] → p.last ≡ 0 → p.begun ≡ 0 → p.owed ≡ Nothing → IsKept p
kept_new p config is opened known coming counts named waiting past last begun owed = record {
  config = subst IsStreamConfig (sym opened) (replay_stream config is);
  own_config = ap replay_config opened ∙ sym opened;
  valid = subst (All IsValidRecord) (sym known) (All-nil IsValidRecord);
  valid_coming = subst (All IsValidRecord) (sym coming) (All-nil IsValidRecord);
  few = subst (λ (rs : List Record). length rs + length p.coming < 2 ^ 32) (sym known) (subst (λ (rs : List Record). 0 + length rs < 2 ^ 32) (sym coming) (omega arith));
  counts = λ q. ap (λ (o : Option ℕ). unwrap_or o 0) (counts q) ∙ ap (λ (rs : List Record). length (of_shard q rs)) (sym known);
  keys = subst (All (HasCount p.counts)) (sym coming) (All-nil (HasCount p.counts));
  named = named ∙ ap (λ (rs : List Record). named_count (setting_for p.opened rs)) (sym known);
  named_few = omega (arith, named);
  run = subst (IsReplay (own p)) (sym past) tt;
  last = last ∙ ap last_moment (sym past);
  in_time = omega (arith, last);
  begun = begun ∙ ap calls_begun (sym past);
  waiting = subst (IsWaitingFor (own p) p.known p.past) (sym waiting) past;
  names_are = λ some. (let gone : 1 ≤ length (call_out []).places = subst (λ (h : List Entry). 1 ≤ length (call_out h).places) past some in absurd (omega arith));
  owed = subst (MayOwe p) (sym owed) (coming, subst (λ (h : List Entry). (owed_replay (own p) h).places ≡ []) (sym past) refl);
}
