-- What a run leaves, told from its first book.
use Rattle.std.proofs.Common.{◌≡◌, ◌⊎◌, ℕ, Bool, List, [], refl, sym, ap, ◌∙◌, subst, append-nil, Option, Some, None, Result, Ok, Err, IfOk, IfErr, OnOk, OnErr, inl}
use Rattle.std.specs.Prelude.{IsSome}
use Rattle.esm_io.specs.Told.{Grows}
use Rattle.esm_model.specs.declared.book.Change.{Change}
use Rattle.esm_model.specs.declared.called.Called.{Called}
use Rattle.esm_model.specs.declared.item.Item.{Item}
use Rattle.esm_model.specs.Coming.{items_of, StayAsTheyAre, AreCome}
use Rattle.esm_input.specs.Reading.{InputState, handed}
use Rattle.esm_serial.specs.declared.reading.Stop.{Stop}
use Rattle.esm_serial.specs.declared.reading.Stop.TheVariants as stop
use Rattle.esm_serial.specs.declared.running.RunEnd.{RunEnd}
use Rattle.esm_serial.specs.declared.running.RunEnd.TheVariants.{Finished, Spent, Down}
use Rattle.esm_serial.specs.declared.serial.Serial.{Ghosts as Serial}
use Rattle.esm_serial.specs.Ran.{HasCalled, HasOneMore, AllCame, CameSo, IsChangeOf, IsCut}
use Rattle.esm_serial.specs.Readings.{Brings, EndsReading, IsNextChange, IsDownAt, IsStopOf}
use Rattle.esm_serial.specs.Steps.{LeadsOn, LeadsPerhapsOn, IsAsItWas}
use Rattle.esm_serial.proofs.Pieces.{come_as}

grows_by_none : {A : Type 0} (o : Option (List A)) → Grows o o []
grows_by_none None = refl
grows_by_none (Some l) = ap (λ x. Some x) (sym (append-nil l))

-- items came, and no call was made
pub has_come : {B : Type 0} (m : Serial B) (gave : ℕ → Bool) (sends : List ℕ → List ℕ) (first read : B) → m.since gave sends first first [] → Brings m gave first read → (log : Option (List Called)) → HasCalled m gave sends first read log log
has_come m gave sends first read begins brings log = record {
  calls = [];
  since = brings.since sends first [] begins;
  logged = grows_by_none log;
}

module _ {B : Type 0} (m : Serial B) (gave : ℕ → Bool) (sends : List ℕ → List ℕ) (first read shut : B) (begins : m.since gave sends first first []) (brings : Brings m gave first read)
    (ends : EndsReading m gave read shut) where
  -- the input was read, and no call was made
  pub has_read : (log : Option (List Called)) → HasCalled m gave sends first shut log log
  has_read log = record {
    calls = [];
    since = ends sends first [] (brings.since sends first [] begins);
    logged = grows_by_none log;
  }

  pub has_called : {E : Type 0} (now : B) (log log' : Option (List Called)) (r : Result RunEnd E) → OnOk r (LeadsOn m gave sends shut now log log') → OnOk r (HasCalled m gave sends first now log log')
  has_called now log log' (Ok end) leads = leads first log (has_read log)
  has_called now log log' (Err e) leads = tt

  pub has_perhaps : {E : Type 0} (now : B) (log log' : Option (List Called)) (r : Result RunEnd E) → OnErr r (LeadsPerhapsOn m gave sends shut now log log')
      → OnErr r (HasCalled m gave sends first now log log' ⊎ HasOneMore m gave sends first now log log')
  has_perhaps now log log' (Ok end) leads = tt
  has_perhaps now log log' (Err e) leads = leads first log (has_read log)

-- no call was made, whatever a caller would send
pub not_called : {B : Type 0} (m : Serial B) (gave : ℕ → Bool) (first read shut : B) → ((gave : ℕ → Bool) (sends : List ℕ → List ℕ) → m.since gave sends first first []) → Brings m gave first read → EndsReading m gave read shut
    → (sends : List ℕ → List ℕ) → m.since gave sends first shut []
not_called m gave first read shut begins brings ends sends = ends sends first [] (brings.since sends first [] (begins gave sends))

-- the book went down while the input was read
pub down_of : {B S : Type 0} (m : Serial B) (gave : ℕ → Bool) (left : S → Option (List ℕ)) (old : B) (i : InputState S) (new : B) (r : Result (Unit {0}) Stop) → r ≡ Err stop.Down
    → IfErr r (IsStopOf m gave left old i new) → IsDownAt m gave old i new
down_of m gave left old i new r is stopped = subst (λ z. IfErr z (IsStopOf m gave left old i new)) is stopped

-- or memory was wanting
pub short_of : {B S : Type 0} (m : Serial B) (gave : ℕ → Bool) (left : S → Option (List ℕ)) (old : B) (i : InputState S) (new : B) (r : Result (Unit {0}) Stop) → r ≡ Err stop.OutOfMemory
    → IfErr r (IsStopOf m gave left old i new) → (m.change new ≡ None) × IsCut left i (m.items new)
short_of m gave left old i new r is stopped = subst (λ z. IfErr z (IsStopOf m gave left old i new)) is stopped

-- a change that was told while the input was read
pub change_of : {B S : Type 0} (m : Serial B) (gave : ℕ → Bool) (sends : List ℕ → List ℕ) (first read now : B) (i : InputState S) (change : Change) → m.since gave sends first first []
    → StayAsTheyAre (m.items read) (m.items now) → IsNextChange m gave first (λ _. []) (handed i) read change → IsChangeOf m gave sends first now i change
change_of m gave sends first read now i change begins same next = record {
  before = next.before;
  since = next.brings.since sends first [] begins;
  front = next.front;
  list = next.list;
  rest = next.rest;
  few = next.few;
  handed_out = next.parts;
  had_come = next.came;
  came = λ n. same n ∙ (next.stay n ∙ next.came n);
  differs_so = next.differs_so;
}

pub no_change : (o : Option Change) (change : Change) (P : Type 0) → o ≡ None → o ≡ Some change → P
no_change o change P none some = absurd (let clash : None ≡ Some change = sym none ∙ some in cc)

-- all items that were handed out came
pub all_came : {B S : Type 0} (m : Serial B) (read shut now : B) (i : InputState S) → AreCome (m.items read) (handed i) → IsSome i.end → ((n : ℕ) → m.items shut n ≡ m.items read n) → m.shut shut
    → IsAsItWas m shut now → AllCame m now i
all_came m read shut now i came ended stay is_shut same = record {
  items = come_as (m.items read) (m.items now) (λ n. same.items n ∙ stay n) (handed i) came;
  ended = ended;
  shut = same.shut is_shut;
}

pub came_all : {B S E : Type 0} (m : Serial B) (gave : ℕ → Bool) (first b : B) (i : InputState S) (start log : Option (List Called)) (r : Result RunEnd E) → AllCame m b i → IfOk r (CameSo m gave first b i start log)
came_all m gave first b i start log (Ok Finished) all = all
came_all m gave first b i start log (Ok Spent) all = all
came_all m gave first b i start log (Ok Down) all = inl all
came_all m gave first b i start log (Err e) all = tt

pub none_came : (came : ℕ → List Item) (items : List Item) → ((n : ℕ) → came n ≡ []) → items ≡ [] → AreCome came items
none_came came items none empty n = none n ∙ ap (items_of n) (sym empty)

-- of a result

pub on_ok_always : {A E : Type 0} (r : Result A E) (P : Type 0) → P → OnOk r P
on_ok_always (Ok a) P holds = holds
on_ok_always (Err e) P holds = tt

pub on_err_always : {A E : Type 0} (r : Result A E) (P : Type 0) → P → OnErr r P
on_err_always (Ok a) P holds = tt
on_err_always (Err e) P holds = holds
