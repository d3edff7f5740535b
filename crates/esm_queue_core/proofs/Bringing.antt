-- Messages that come one after another, of which those that were found deleted are deleted.
use Rattle.std.proofs.Common.{◌≡◌, ℕ, suc, ◌+◌, ◌≤◌, Bool, true, false, cond, List, [], ◌∷◌, ◌++◌, length, refl, sym, ap, ap₂, ◌∙◌, arith, append_assoc, Option, Some, None}
use Rattle.std.specs.Prelude.{◌==◌, option_map, is_some}
use Rattle.std.proofs.lemmas.List.{append-nil, length-append}
use Rattle.std.proofs.lemmas.List.Sums.{sum_by_push}
use Rattle.std.proofs.lemmas.Bool.{or_from, or_left, ne_eqb, eq-eqb, cond-true, cond-false}
use Rattle.esm_model.specs.declared.moment.TheConstants.{MAX_MOMENT}
use Rattle.esm_model.specs.declared.item.Message.{Message}
use Rattle.esm_model.specs.declared.setup.FoundDeletion.{FoundDeletion}
use Rattle.esm_model.specs.Entries.{holds}
use Rattle.esm_model.specs.Moment.{capped_moment}
use Rattle.esm_journal_state.specs.declared.kept.KeptFate.{KeptFate}
use Rattle.esm_journal_state.specs.SaidLists.{SaidLists, deletion_told}
use Rattle.esm_journal_state.specs.Tells.{deletion_of_found}
use Rattle.esm_queue_model.specs.declared.stored.Stored.{Stored}
use Rattle.esm_queue_model.specs.Queue.{QueueState, arrived, changed_from, deleted_once, after_arrival, after_deletion}
use Rattle.esm_queue_model.specs.QueueSetting.{QueueSetting, is_found}
use Rattle.esm_queue_model.specs.QueueEntries.{coming, coming_from}
use Rattle.esm_queue_core.specs.Next.{deleted_number}
use Rattle.esm_queue_core.proofs.Judging.{found_told}

-- one message

-- it is deleted from the start, or not
abbrev come_with : Message → ℕ → Bool → Stored
come_with message m b = record (arrived message m) { deleted = b }

abbrev pub with_last : QueueState → Message → ℕ → Bool → QueueState
with_last q message m b = record q { messages = q.messages ++ come_with message m b ∷ [] }

-- the last message is deleted
changed_end : (k : ℕ) (xs : List Stored) (y : Stored) → changed_from deleted_once ((k + length xs) ∷ []) k (xs ++ y ∷ []) ≡ xs ++ deleted_once y ∷ []
changed_end k [] y =
    let at : k + 0 ≡ k = omega arith in
    let here : holds (k ∷ []) k ≡ true = or_left (k == k) false (eq-eqb k k refl) in
    ap (λ (p : ℕ). changed_from deleted_once (p ∷ []) k (y ∷ [])) at ∙ ap (λ (z : Stored). z ∷ []) (cond-true (holds (k ∷ []) k) (deleted_once y) y here)
changed_end k (x ∷ xs) y =
    let n = length xs in
    let at : k + suc n ≡ (k + 1) + n = omega arith in
    let other : holds ((k + suc n) ∷ []) k ≡ false = or_from (k + suc n == k) false (ne_eqb (k + suc n) k (λ e. omega arith)) refl in
    let rest : changed_from deleted_once ((k + suc n) ∷ []) (k + 1) (xs ++ y ∷ []) ≡ xs ++ deleted_once y ∷ [] = ap (λ (p : ℕ). changed_from deleted_once (p ∷ []) (k + 1) (xs ++ y ∷ [])) at ∙ changed_end (k + 1) xs y in
    ap₂ (λ (z : Stored) (zs : List Stored). z ∷ zs) (cond-false (holds ((k + suc n) ∷ []) k) (deleted_once x) x other) rest

came_at : (q q1 : QueueState) (message : Message) (m : ℕ) → m ≤ MAX_MOMENT → q1 ≡ after_arrival message (capped_moment m) q → q1 ≡ after_arrival message m q
came_at q q1 message m within is =
    let capped : capped_moment m ≡ m = omega arith in
    is ∙ ap (λ (n : ℕ). after_arrival message n q) capped

pub came_whole : (q q1 : QueueState) (message : Message) (m : ℕ) (b : Bool) → m ≤ MAX_MOMENT → q1 ≡ after_arrival message (capped_moment m) q → b ≡ false → q1 ≡ with_last q message m b
came_whole q q1 message m b within is never = came_at q q1 message m within is ∙ ap (λ (c : Bool). with_last q message m c) (sym never)

pub came_deleted : (q q1 new : QueueState) (message : Message) (m place : ℕ) (b : Bool) → m ≤ MAX_MOMENT → q1 ≡ after_arrival message (capped_moment m) q → place ≡ length q.messages → new ≡ after_deletion (place ∷ []) q1 → b ≡ true → new ≡ with_last q message m b
came_deleted q q1 new message m place b within is at gone always =
    let from : place ≡ 0 + length q.messages = omega arith in
    gone
    ∙ (ap₂ (λ (p : ℕ) (r : QueueState). after_deletion (p ∷ []) r) from (came_at q q1 message m within is)
    ∙ (ap (λ (xs : List Stored). record { fifo = q.fifo; visibility = q.visibility; messages = xs }) (changed_end 0 q.messages (arrived message m))
    ∙ ap (λ (c : Bool). with_last q message m c) (sym always)))

told_some : {X : Type 0} (f : X → KeptFate) (o : Option X) (t : Option FoundDeletion) → option_map f o ≡ option_map deletion_of_found t → is_some o ≡ is_some t
told_some f None None is = refl
told_some f (Some x) (Some d) is = refl
told_some f None (Some d) is = absurd (cc)
told_some f (Some x) None is = absurd (cc)

pub found_as : {X : Type 0} (f : X → KeptFate) (o : Option X) (s : QueueSetting) (said : SaidLists) (i : ℕ) → option_map f o ≡ option_map deletion_of_found (deletion_told said i) → s.deletions ≡ said.deletions → is_found s i ≡ is_some o
found_as f o s said i is same = found_told s said i same ∙ sym (told_some f o (deletion_told said i) is)

pub last_state : (s : QueueSetting) (q new : QueueState) (message : Message) (m : ℕ) (b : Bool) → new ≡ with_last q message m b → is_found s (length q.messages) ≡ b → new ≡ record q { messages = q.messages ++ coming_from s m (length q.messages) (message ∷ []) }
last_state s q new message m b is found = is ∙ ap (λ (c : Bool). with_last q message m c) (sym found)

pub last_number : (q new : QueueState) (message : Message) (m : ℕ) (b : Bool) → new ≡ with_last q message m b → length new.messages ≡ length q.messages + 1
last_number q new message m b is = ap (λ (r : QueueState). length r.messages) is ∙ length-append q.messages (come_with message m b ∷ [])

pub last_deleted : (q new : QueueState) (message : Message) (m : ℕ) (b : Bool) → new ≡ with_last q message m b → deleted_number new ≡ deleted_number q + cond b 1 0
last_deleted q new message m b is = ap deleted_number is ∙ sum_by_push (λ (x : Stored). cond x.deleted 1 0) q.messages (come_with message m b)

-- all messages

abbrev pub with_coming : QueueSetting → ℕ → QueueState → List Message → QueueState
with_coming s m q xs = record q { messages = q.messages ++ coming_from s m (length q.messages) xs }

-- one more of those that are left
pub coming_more : (s : QueueSetting) (m : ℕ) (q new : QueueState) (x : Message) (xs left : List Message) → new ≡ with_coming s m q (x ∷ []) → left ≡ x ∷ xs → with_coming s m new xs ≡ with_coming s m q left
coming_more s m q new x xs left is left_is =
    let k = length q.messages in
    let one : List Stored = coming s m k x ∷ [] in
    let e : length (q.messages ++ one) ≡ k + 1 = length-append q.messages one in
    ap (λ (r : QueueState). with_coming s m r xs) is
    ∙ (ap (λ (zs : List Stored). record { fifo = q.fifo; visibility = q.visibility; messages = zs })
    (ap (λ (n : ℕ). (q.messages ++ one) ++ coming_from s m n xs) e ∙ append_assoc q.messages one (coming_from s m (k + 1) xs))
    ∙ ap (λ (ys : List Message). with_coming s m q ys) (sym left_is))

pub coming_none : (s : QueueSetting) (m : ℕ) (q : QueueState) (left : List Message) → left ≡ [] → with_coming s m q left ≡ q
coming_none s m q left none =
    ap (λ (xs : List Message). with_coming s m q xs) none
    ∙ ap (λ (zs : List Stored). record { fifo = q.fifo; visibility = q.visibility; messages = zs }) (append-nil q.messages)

pub nothing_left : (xs : List Message) → length xs ≡ 0 → xs ≡ []
nothing_left [] none = refl
nothing_left (x ∷ xs) none = absurd (omega arith)

-- how many are deleted of those

pub low_more : (n n' k k' : ℕ) (b : Bool) → n ≤ k → n' ≡ n + cond b 1 0 → k' ≡ k + 1 → n' ≤ k'
low_more n n' k k' true low more next = omega arith
low_more n n' k k' false low more next = omega arith

pub count_more : (a n n' c c' : ℕ) (b : Bool) → c ≡ a + n → c' ≡ c + cond b 1 0 → n' ≡ n + cond b 1 0 → c' ≡ a + n'
count_more a n n' c c' true so_far next more = omega arith
count_more a n n' c c' false so_far next more = omega arith
