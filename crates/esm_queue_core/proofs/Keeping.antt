-- What is kept of a core stays true where it decides.
use Rattle.std.proofs.Common.{◌≡◌, ℕ, zero, suc, ◌+◌, ◌<◌, ◌≤◌, ◌^◌, Bool, true, false, not, cond, List, [], ◌∷◌, ◌++◌, length, reverse, refl, sym, ap, ap₂, ◌∙◌, subst, arith, Option, Some, None}
use Rattle.std.specs.Prelude.{slice_get, max, min, ◌-◌, ◌&&◌, option_map, unwrap_or}
use Rattle.std.specs.Str.{bytes_eq}
use Rattle.std.proofs.lemmas.Bool.{not-false}
use Rattle.std.specs.List.{All}
use Rattle.std.proofs.lemmas.List.{append-nil, length-append, length-map}
use Rattle.std.proofs.lemmas.List.Elements.{All-append, All-nil}
use Rattle.esm_model.specs.declared.moment.TheConstants.{MAX_MOMENT}
use Rattle.esm_model.specs.declared.item.Message.{Message}
use Rattle.esm_model.specs.declared.lane.LaneId.{LaneId}
use Rattle.esm_model.specs.declared.entry.Reply.{Reply}
use Rattle.esm_model.specs.declared.entry.Fate.{Fate}
use Rattle.esm_model.specs.declared.entry.Fate.TheVariants.{Succeeded, Filtered}
use Rattle.esm_model.specs.declared.entry.Entry.{Entry}
use Rattle.esm_model.specs.declared.entry.Entry.TheVariants as entry
use Rattle.esm_model.specs.declared.setup.FoundDeletion.{FoundDeletion}
use Rattle.esm_model.specs.Entries.{is_shut, is_running}
use Rattle.esm_model.specs.Step.{IsLater}
use Rattle.esm_model.specs.ValidMessage.{IsValidMessage}
use Rattle.esm_queue.specs.Held.{Held}
use Rattle.esm_queue_model.specs.declared.stored.Stored.{Stored}
use Rattle.esm_queue_model.specs.Queue.{QueueState, receivable}
use Rattle.esm_queue_model.proofs.Groups.{bytes_eq-true}
use Rattle.esm_model.specs.Moment.{moment_after, capped_moment}
use Rattle.esm_queue_model.specs.QueueSetting.{QueueSetting, over_messages, is_found}
use Rattle.esm_queue_model.specs.QueueEntries.{queue_count}
use Rattle.esm_queue_model.specs.QueueStep.{is_refused_message, IsKeptMessage, MayBeginQueue}
use Rattle.esm_queue_model.proofs.MoreMessages.{stored_count}
use Rattle.esm_queue_core.specs.declared.owed.First.{First}
use Rattle.esm_queue_core.specs.declared.owed.First.TheVariants.{Came, Began, Ended}
use Rattle.esm_queue_core.specs.declared.owed.Gift.{Gift}
use Rattle.esm_queue_core.specs.declared.standing.Standing.TheVariants.{Whole}
use Rattle.esm_queue_core.specs.CoreView.{CoreView, ahead, moment_for, LegalAhead, SettledAhead, owing, forgotten}
use Rattle.esm_queue_core.specs.Coming.{gave_entries, refused_from, came_from, came_entries, deletion_at, has_changed, NoneHasChanged}
use Rattle.esm_queue_core.specs.Ending.{ended_places, ended_entries}
use Rattle.esm_queue_core.specs.Kept.{Parts, IsKept, StandsSo, CanAddFirst, IsGift, own, full, seen_of, owed_entries, gift_entries, with_owed, with_gift, cost, first_cost, gift_cost, shut_cost, running_lanes, messages_stored}
use Rattle.esm_queue_core.proofs.More.{sound_over, queue_over, extends_append}
use Rattle.esm_queue_core.specs.Sound.{Sound, Brings, gave_on}
use Rattle.esm_queue_core.proofs.Settling.{came_sound, ended_sound, began_sound}

-- nothing is owed

pub owed_none : (first : Option First) (gift : Option Gift) → owed_entries first gift ≡ [] → (first ≡ None) × (gift ≡ None)
owed_none None None is = (refl, refl)
owed_none None (Some g) is = absurd (cc)
owed_none (Some f) g is = absurd (cc)

none_coming : (p : Parts) → IsKept p → p.first ≡ None → p.coming ≡ []
none_coming p k none = subst (λ (f : Option First). CanAddFirst p.held p.coming f) none k.first

-- room is made
pub kept_rest : (p : Parts) (held : Held) (capacity : ℕ) → IsKept p → p.first ≡ None → held.state ≡ p.held.state → p.capacity ≤ capacity → IsKept (record p { held = held; capacity = capacity })
kept_rest p held capacity k none same more =
    subst (λ (st : QueueState). IsKept (record p { held = record { state = st; spare = held.spare; ready = held.ready }; capacity = capacity })) (sym same)
    (record {
      config = k.config;
      criteria = k.criteria;
      valid = k.valid;
      few = k.few;
      queue = k.queue;
      queue_ahead = k.queue_ahead;
      last = k.last;
      in_time = k.in_time;
      shut = k.shut;
      begun = k.begun;
      deleted = k.deleted;
      room = let r = k.room in omega arith;
      short = k.short;
      first = subst (λ (f : Option First). CanAddFirst (record { state = p.held.state; spare = held.spare; ready = held.ready }) p.coming f) (sym none) (none_coming p k none);
      gift = k.gift;
      standing = k.standing;
    })

-- what a decision leaves is sound

reverse_owed : (first : Option First) (gift : Option Gift) (h : List Entry) → reverse (owed_entries first gift) ++ h ≡ with_owed first gift h
reverse_owed None None h = refl
reverse_owed None (Some g) h = refl
reverse_owed (Some f) None h = refl
reverse_owed (Some f) (Some g) h = refl

whole_of : (p : Parts) → IsKept p → p.standing ≡ Whole → Sound (own p) p.past × Sound (full p) (with_owed p.first p.gift p.past)
whole_of p k whole =
    let s = subst (StandsSo (own p) (full p) p.past (with_owed p.first p.gift p.past) p.running) whole k.standing in
    (s.0, s.1)

pub own_sound : (p : Parts) → IsKept p → p.standing ≡ Whole → Sound (own p) p.past
own_sound p k whole = (whole_of p k whole).0

pub running_few : (p : Parts) → IsKept p → p.standing ≡ Whole → length (running_lanes p.past) ≤ p.running
running_few p k whole = (subst (StandsSo (own p) (full p) p.past (with_owed p.first p.gift p.past) p.running) whole k.standing).2

sound_ahead : (p : Parts) → IsKept p → p.standing ≡ Whole → Sound (full p) (ahead (seen_of p))
sound_ahead p k whole = subst (Sound (full p)) (sym (reverse_owed p.first p.gift p.past)) (whole_of p k whole).1

pub legal_ahead : (p : Parts) → IsKept p → p.standing ≡ Whole → LegalAhead (seen_of p)
legal_ahead p k whole messages goes = (sound_over (full p) messages (ahead (seen_of p)) goes (sound_ahead p k whole)).legal

pub settled_ahead : (p : Parts) → IsKept p → p.standing ≡ Whole → SettledAhead (seen_of p)
settled_ahead p k whole messages goes = (sound_over (full p) messages (ahead (seen_of p)) goes (sound_ahead p k whole)).settled

-- a decision owes this, with room that was made

abbrev pub deciding : Parts → Held → ℕ → List Message → Option First → Option Gift → Parts
deciding p held capacity coming first gift = record p { held = held; capacity = capacity; coming = coming; first = first; gift = gift }

-- what it needs
pub record Decides (p : Parts) (held : Held) (capacity : ℕ) (coming : List Message) (first : Option First) (gift : Option Gift) : Type 0 where
  pub same : held.state ≡ p.held.state
  pub valid : All (IsValidMessage p.config.kind) coming
  pub few : length (messages_stored p.held.state ++ coming) < 2 ^ 32
  pub room : p.number + cost first gift p.past ≤ capacity
  pub short : p.number + cost first gift p.past ≤ 2 ^ 40
  pub can : CanAddFirst held coming first
  pub given : IsGift (messages_stored p.held.state ++ coming) gift
  pub sound : Sound (over_messages (own p) (messages_stored p.held.state ++ coming)) (with_owed first gift p.past)

pub kept_decided : (p : Parts) (held : Held) (capacity : ℕ) (coming : List Message) (first : Option First) (gift : Option Gift) → IsKept p → p.standing ≡ Whole → p.coming ≡ [] → Decides p held capacity coming first gift → IsKept (deciding p held capacity coming first gift)
kept_decided p held capacity coming first gift k whole none d =
    let base : IsKept (deciding p (record { state = p.held.state; spare = held.spare; ready = held.ready }) capacity coming first gift) = record {
      config = k.config;
      criteria = k.criteria;
      valid = All-append (IsValidMessage p.config.kind) (messages_stored p.held.state) coming
          (subst (All (IsValidMessage p.config.kind)) (ap (λ ms. messages_stored p.held.state ++ ms) none ∙ append-nil (messages_stored p.held.state)) k.valid) d.valid;
      few = d.few;
      queue = k.queue;
      queue_ahead = k.queue ∙ sym (queue_over (own p) (messages_stored p.held.state ++ coming) p.past (extends_append (messages_stored p.held.state) coming) (own_sound p k whole).legal);
      last = k.last;
      in_time = k.in_time;
      shut = k.shut;
      begun = k.begun;
      deleted = k.deleted;
      room = d.room;
      short = d.short;
      first = subst (λ (st : QueueState). CanAddFirst (record { state = st; spare = held.spare; ready = held.ready }) coming first) d.same d.can;
      gift = d.given;
      standing = subst (StandsSo (own p) (over_messages (own p) (messages_stored p.held.state ++ coming)) p.past (with_owed first gift p.past) p.running) (sym whole)
          (own_sound p k whole, d.sound, running_few p k whole);
    } in
    subst (λ (st : QueueState). IsKept (deciding p (record { state = st; spare = held.spare; ready = held.ready }) capacity coming first gift)) (sym d.same) base

-- and is seen so
pub seen_decided : (p : Parts) (held : Held) (capacity : ℕ) (coming : List Message) (first : Option First) (gift : Option Gift) (es : List Entry) → held.state ≡ p.held.state → owed_entries first gift ≡ es → seen_of (deciding p held capacity coming first gift) ≡ owing (seen_of p) coming es
seen_decided p held capacity coming first gift es same is =
    ap₂ (λ (st : QueueState) (owed : List Entry). record { setting = record { config = p.config; calls = p.calls; visibility = p.visibility; messages = messages_stored st; deletions = p.deletions }; past = p.past; coming = coming; owed = owed }) same is

-- where nothing was owed, forgetting leads back
pub undone : (v : CoreView) (coming : List Message) (es : List Entry) → v.coming ≡ [] → v.owed ≡ [] → forgotten (owing v coming es) ≡ v
undone v coming es none nothing = ap₂ (λ (ms : List Message) (owed : List Entry). record { setting = v.setting; past = v.past; coming = ms; owed = owed }) (sym none) (sym nothing)

pub nothing_coming : (p : Parts) → IsKept p → p.first ≡ None → (seen_of p).coming ≡ []
nothing_coming p k none = none_coming p k none

-- moments

pub later_of : (p : Parts) (m moment : ℕ) → IsKept p → m ≡ min (max moment p.last) MAX_MOMENT → IsLater p.past m
later_of p m moment k is = record { not_back = (let l = k.last in let t = k.in_time in omega arith); within = omega arith }

pub moment_is : (p : Parts) (m moment : ℕ) → IsKept p → m ≡ min (max moment p.last) MAX_MOMENT → m ≡ moment_for p.past moment
moment_is p m moment k is = is ∙ ap (λ l. min (max moment l) MAX_MOMENT) k.last

-- messages come

given_on : (gift : Option Gift) (by : Option LaneId) (ps : List ℕ) (f : Fate) (m : ℕ) (h : List Entry) → gift_entries gift ≡ gave_entries by ps f m → with_gift gift h ≡ gave_on by ps f m h
given_on None by [] f m h is = refl
given_on None by (i ∷ ps) f m h is = absurd (cc)
given_on (Some g) by [] f m h is = absurd (cc)
given_on (Some g) by (i ∷ ps) f m h is = ap (λ (es : List Entry). es ++ h) is

stored_long : (p : Parts) → IsKept p → p.standing ≡ Whole → queue_count p.past ≡ length (messages_stored p.held.state)
stored_long p k whole =
    sym (stored_count (own p) p.past (own_sound p k whole).legal)
    ∙ (ap (λ (q : QueueState). length q.messages) (sym k.queue) ∙ sym (length-map p.held.state.messages (λ (x : Stored). x.message)))

-- a message that was found deleted has the id that was kept
kept_id : (deletions : List FoundDeletion) (i : ℕ) (f : FoundDeletion) (m : Message) → deletion_at deletions i ≡ Some f → has_changed deletions i m ≡ false → m.id ≡ f.text
kept_id deletions i f m at same =
    let is : not (bytes_eq f.text m.id) ≡ false = subst (λ (o : Option FoundDeletion). unwrap_or (option_map (λ (g : FoundDeletion). not (bytes_eq g.text m.id)) o) false ≡ false) at same in
    sym (bytes_eq-true f.text m.id (not-false (bytes_eq f.text m.id) is))

past_at : (old xs : List Message) (i : ℕ) → length old ≤ i → slice_get (old ++ xs) i ≡ slice_get xs (i - length old)
past_at [] xs i le = (let e : i ≡ i - 0 = omega arith in ap (λ j. slice_get xs j) e)
past_at (x ∷ old) xs zero le = absurd (omega arith)
past_at (x ∷ old) xs (suc i) le = (let e : i - length old ≡ suc i - suc (length old) = omega arith in past_at old xs i (omega arith) ∙ ap (λ j. slice_get xs j) e)

came_kept : (p : Parts) (items : List Message) → NoneHasChanged p.deletions (length (messages_stored p.held.state)) items (length items) → IsKeptMessage (over_messages (own p) (messages_stored p.held.state ++ items)) (length (messages_stored p.held.state)) (length items)
came_kept p items none i f m from to at found =
    let n = length (messages_stored p.held.state) in
    let there : slice_get items (i - n) ≡ Some m = sym (past_at (messages_stored p.held.state) items i from) ∙ at in
    let l : i - n < length items = omega arith in
    let e : n + (i - n) ≡ i = omega arith in
    kept_id p.deletions i f m found (subst (λ j. has_changed p.deletions j m ≡ false) e (none (i - n) m l there))

-- what a list that comes owes
pub record Arrives (p : Parts) (held : Held) (capacity : ℕ) (items : List Message) (gift : Option Gift) (m moment : ℕ) : Type 0 where
  pub some : 1 ≤ length items
  pub going : is_shut p.past ≡ false
  pub valid : All (IsValidMessage p.config.kind) items
  pub few : length (messages_stored p.held.state) + length items < 2 ^ 32
  pub unchanged : NoneHasChanged p.deletions (length (messages_stored p.held.state)) items (length items)
  pub same : held.state ≡ p.held.state
  pub spare : length items ≤ held.spare
  pub now : m ≡ min (max moment p.last) MAX_MOMENT
  pub gift_is : gift_entries gift ≡ gave_entries None (refused_from (own p) (length (messages_stored p.held.state)) items) Filtered m
  pub written : IsGift (messages_stored p.held.state ++ items) gift
  pub room : p.number + p.running + 3 ≤ capacity
  pub short : p.number + p.running + 3 ≤ 2 ^ 40

refused_over : (s : QueueSetting) (ms : List Message) (k : ℕ) (xs : List Message) → refused_from (over_messages s ms) k xs ≡ refused_from s k xs
refused_over s ms k [] = refl
refused_over s ms k (x ∷ xs) = ap (λ (ys : List ℕ). cond (not (is_found s k) && is_refused_message s x) (k ∷ ys) ys) (refused_over s ms (k + 1) xs)

gift_low : (gift : Option Gift) → gift_cost gift ≤ 1
gift_low None = omega arith
gift_low (Some g) = omega arith

shut_low : (b : Bool) → shut_cost b ≤ 1
shut_low true = omega arith
shut_low false = omega arith

-- what an entry with a cost of two at most needs
cost_few : (p : Parts) (first : Option First) (gift : Option Gift) (room : ℕ) → IsKept p → p.standing ≡ Whole → first_cost first + gift_cost gift ≤ 2 → p.number + p.running + 3 ≤ room → p.number + cost first gift p.past ≤ room
cost_few p first gift room k whole low le =
    let few = running_few p k whole in
    let shut = shut_low (is_shut p.past) in
    omega arith

pub arrives_decides : (p : Parts) (held : Held) (capacity : ℕ) (items : List Message) (gift : Option Gift) (from count m moment : ℕ) → IsKept p → p.standing ≡ Whole → from ≡ length p.held.state.messages → count ≡ length items → Arrives p held capacity items gift m moment
    → Decides p held capacity items (Some (Came from count m)) gift
arrives_decides p held capacity items gift from count m moment k whole from_is count_is a =
    let old = messages_stored p.held.state in
    let s = over_messages (own p) (old ++ items) in
    let long : length old ≡ length p.held.state.messages = length-map p.held.state.messages (λ (x : Stored). x.message) in
    let at : from ≡ length old = from_is ∙ sym long in
    let low = gift_low gift in
    let both : first_cost (Some (Came from count m)) + gift_cost gift ≤ 2 = omega (arith, low) in
    let later = later_of p m moment k a.now in
    let brings : Brings s p.past old items m = record {
      all = refl;
      number = stored_long p k whole;
      going = a.going;
      some = a.some;
      kept = came_kept p items a.unchanged;
      later = later;
    } in
    let sound = sound_over (own p) (old ++ items) p.past (extends_append old items) (own_sound p k whole) in
    let with_places = came_sound s p.past old items m (refused_from (own p) (length old) items) brings sound (sym (refused_over (own p) (old ++ items) (length old) items)) in
    record {
      same = a.same;
      valid = a.valid;
      few = omega (arith, a.few, length-append old items);
      room = cost_few p (Some (Came from count m)) gift capacity k whole both a.room;
      short = cost_few p (Some (Came from count m)) gift (2 ^ 40) k whole both a.short;
      can = (from_is ∙ ap (λ (q : QueueState). length q.messages) (sym a.same), count_is, a.spare, later.within);
      given = a.written;
      sound = subst (Sound s) (sym (given_on gift None (refused_from (own p) (length old) items) Filtered m (entry.Came 0 from count m ∷ p.past) a.gift_is
          ∙ ap₂ (λ (n c : ℕ). gave_on None (refused_from (own p) (length old) items) Filtered m (entry.Came 0 n c m ∷ p.past)) at count_is)) with_places;
    }

-- a list with messages owes these entries
came_some : (s : QueueSetting) (k : ℕ) (items : List Message) (m : ℕ) → 1 ≤ length items → entry.Came 0 k (length items) m ∷ gave_entries None (refused_from s k items) Filtered m ≡ came_from s k items m
came_some s k [] m some = absurd (omega arith)
came_some s k (x ∷ xs) m some = refl

pub came_owed : (p : Parts) (held : Held) (capacity : ℕ) (items : List Message) (gift : Option Gift) (from count m moment : ℕ) → IsKept p → from ≡ length p.held.state.messages → count ≡ length items → Arrives p held capacity items gift m moment
    → owed_entries (Some (Came from count m)) gift ≡ came_entries (seen_of p) items moment
came_owed p held capacity items gift from count m moment k from_is count_is a =
    let old = messages_stored p.held.state in
    let at : from ≡ length old = from_is ∙ sym (length-map p.held.state.messages (λ (x : Stored). x.message)) in
    ap₂ (λ (n c : ℕ). entry.Came 0 n c m ∷ gift_entries gift) at count_is
    ∙ (ap (λ (es : List Entry). entry.Came 0 (length old) (length items) m ∷ es) a.gift_is
    ∙ (came_some (own p) (length old) items m a.some ∙ ap (came_from (own p) (length old) items) (moment_is p m moment k a.now)))

-- a call ends

pub record Ends (p : Parts) (held : Held) (capacity : ℕ) (lane : LaneId) (reply : Reply) (gift : Option Gift) (m moment : ℕ) : Type 0 where
  pub runs : is_running p.past lane ≡ true
  pub same : held.state ≡ p.held.state
  pub now : m ≡ min (max moment p.last) MAX_MOMENT
  pub gift_is : gift_entries gift ≡ gave_entries (Some lane) (ended_places (own p) p.past lane reply m) Succeeded m
  pub written : IsGift (messages_stored p.held.state ++ []) gift
  pub room : p.number + p.running + 3 ≤ capacity
  pub short : p.number + p.running + 3 ≤ 2 ^ 40

own_full : (p : Parts) → over_messages (own p) (messages_stored p.held.state ++ []) ≡ own p
own_full p = ap (λ (ms : List Message). over_messages (own p) ms) (append-nil (messages_stored p.held.state))

few_own : (p : Parts) → IsKept p → length (messages_stored p.held.state ++ []) < 2 ^ 32
few_own p k = let f = k.few in omega (arith, length-append (messages_stored p.held.state) p.coming, length-append (messages_stored p.held.state) [])

pub ends_decides : (p : Parts) (held : Held) (capacity : ℕ) (lane : LaneId) (reply : Reply) (gift : Option Gift) (m moment : ℕ) → IsKept p → p.standing ≡ Whole → Ends p held capacity lane reply gift m moment
    → Decides p held capacity [] (Some (Ended lane reply m)) gift
ends_decides p held capacity lane reply gift m moment k whole e =
    let low = gift_low gift in
    let both : first_cost (Some (Ended lane reply m)) + gift_cost gift ≤ 2 = omega (arith, low) in
    let later = later_of p m moment k e.now in
    let ps = ended_places (own p) p.past lane reply m in
    let sound = ended_sound (own p) p.past lane reply m ps (own_sound p k whole) e.runs later refl in
    record {
      same = e.same;
      valid = All-nil (IsValidMessage p.config.kind);
      few = few_own p k;
      room = cost_few p (Some (Ended lane reply m)) gift capacity k whole both e.room;
      short = cost_few p (Some (Ended lane reply m)) gift (2 ^ 40) k whole both e.short;
      can = (refl, later.within);
      given = e.written;
      sound = subst (λ (s : QueueSetting). Sound s (with_owed (Some (Ended lane reply m)) gift p.past)) (sym (own_full p))
          (subst (Sound (own p)) (sym (given_on gift (Some lane) ps Succeeded m (entry.Ended lane reply m ∷ p.past) e.gift_is)) sound);
    }

pub ended_owed : (p : Parts) (held : Held) (capacity : ℕ) (lane : LaneId) (reply : Reply) (gift : Option Gift) (m moment : ℕ) → IsKept p → Ends p held capacity lane reply gift m moment
    → owed_entries (Some (Ended lane reply m)) gift ≡ ended_entries (own p) p.past lane reply (moment_for p.past moment)
ended_owed p held capacity lane reply gift m moment k e =
    ap (λ (es : List Entry). entry.Ended lane reply m ∷ es) e.gift_is ∙ ap (ended_entries (own p) p.past lane reply) (moment_is p m moment k e.now)

-- a call begins

pub record Begins (p : Parts) (held : Held) (capacity : ℕ) (lane : LaneId) (places : List ℕ) (m moment : ℕ) : Type 0 where
  pub may : MayBeginQueue (own p) p.past lane places m
  pub same : held.state ≡ p.held.state
  pub ready : held.ready ≡ moment_after (capped_moment m) p.held.state.visibility
  pub receives : places ≡ receivable p.held.state m (length places)
  pub now : m ≡ min (max moment p.last) MAX_MOMENT
  pub room : p.number + p.running + 3 ≤ capacity
  pub short : p.number + p.running + 3 ≤ 2 ^ 40

pub begins_decides : (p : Parts) (held : Held) (capacity : ℕ) (lane : LaneId) (places : List ℕ) (m moment : ℕ) → IsKept p → p.standing ≡ Whole → Begins p held capacity lane places m moment
    → Decides p held capacity [] (Some (Began lane places m)) None
begins_decides p held capacity lane places m moment k whole b =
    let both : first_cost (Some (Began lane places m)) + gift_cost None ≤ 2 = omega arith in
    let later = later_of p m moment k b.now in
    let within = later.within in
    let capped : capped_moment m ≡ m = omega arith in
    record {
      same = b.same;
      valid = All-nil (IsValidMessage p.config.kind);
      few = few_own p k;
      room = cost_few p (Some (Began lane places m)) None capacity k whole both b.room;
      short = cost_few p (Some (Began lane places m)) None (2 ^ 40) k whole both b.short;
      can = (refl, b.ready ∙ ap₂ (λ (n : ℕ) (q : QueueState). moment_after n q.visibility) capped (sym b.same), b.receives ∙ ap (λ (q : QueueState). receivable q m (length places)) (sym b.same), within);
      given = tt;
      sound = subst (λ (s : QueueSetting). Sound s (entry.Began lane places None m ∷ p.past)) (sym (own_full p)) (began_sound (own p) p.past lane places m (own_sound p k whole) later b.may);
    }

-- nothing is decided
pub none_decides : (p : Parts) (held : Held) (capacity : ℕ) → IsKept p → p.standing ≡ Whole → p.first ≡ None → p.gift ≡ None → held.state ≡ p.held.state → p.capacity ≤ capacity → Decides p held capacity [] None None
none_decides p held capacity k whole none nothing same more =
    record {
      same = same;
      valid = All-nil (IsValidMessage p.config.kind);
      few = few_own p k;
      room = let r = subst (λ (g : Option Gift). p.number + cost None g p.past ≤ p.capacity) nothing (subst (λ (f : Option First). p.number + cost f p.gift p.past ≤ p.capacity) none k.room) in omega arith;
      short = subst (λ (g : Option Gift). p.number + cost None g p.past ≤ 2 ^ 40) nothing (subst (λ (f : Option First). p.number + cost f p.gift p.past ≤ 2 ^ 40) none k.short);
      can = refl;
      given = tt;
      sound = subst (λ (s : QueueSetting). Sound s p.past) (sym (own_full p)) (own_sound p k whole);
    }
