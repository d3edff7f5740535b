-- What one list that comes leaves of a book.
use Rattle.std.proofs.Common.{◌≡◌, ◌⊎◌, ℕ, Bool, true, List, [], refl, sym, ap, ◌∙◌, subst, append-nil, Option, Some, None, Result, Ok, Err, OnOk, IfErr, inl, inr}
use Rattle.std.specs.Prelude.{IsErrOf, ◌≤◌, length}
use Rattle.esm_model.specs.declared.book.CameError.{CameError}
use Rattle.esm_model.specs.declared.book.CameError.TheVariants as refusal
use Rattle.esm_model.specs.declared.book.Change.{Change}
use Rattle.esm_model.specs.declared.item.Item.{Item}
use Rattle.esm_model.specs.declared.limits.TheConstants.{MAX_BATCH}
use Rattle.esm_model.specs.Coming.{StayAsTheyAre}
use Rattle.esm_model.specs.GoingOn.{change_told}
use Rattle.esm_serial.specs.declared.reading.Stop.{Stop}
use Rattle.esm_serial.specs.declared.reading.Stop.TheVariants.{Down}
use Rattle.esm_serial.specs.declared.serial.Serial.{Ghosts as Serial}
use Rattle.esm_serial.specs.Adding.{AddsNoCall}
use Rattle.esm_serial.specs.Readings.{Brings, IsStopFor, stop_of}

-- of the refusal and the answer made of it

pub ok_stop : (r : Result (Unit {0}) CameError) (q : Result (Unit {0}) Stop) (P : Type 0) → q ≡ stop_of r → OnOk r P → OnOk q P
ok_stop (Ok u) q P is holds = subst (λ z. OnOk z P) (sym is) holds
ok_stop (Err (refusal.StreamChanged change)) q P is holds = subst (λ z. OnOk z P) (sym is) tt
ok_stop (Err refusal.DiskFault) q P is holds = subst (λ z. OnOk z P) (sym is) tt
ok_stop (Err refusal.Down) q P is holds = subst (λ z. OnOk z P) (sym is) tt
ok_stop (Err refusal.OutOfMemory) q P is holds = subst (λ z. OnOk z P) (sym is) tt

-- a change that came is told, and no other
pub told_none : (r : Result (Unit {0}) CameError) (before told : Option Change) → before ≡ None → told ≡ change_told before r → OnOk r (told ≡ None)
told_none (Ok u) before told none is = is ∙ none
told_none (Err e) before told none is = tt

module _ {B : Type 0} (m : Serial B) (gave : ℕ → Bool) where
  pub brings_none : (b : B) → m.going b → Brings m gave b b
  brings_none b going = record { since = λ sends first calls is. is; going = going; kind = refl; function = refl }

  pub brings_then : (old mid new : B) → Brings m gave old mid → Brings m gave mid new → Brings m gave old new
  brings_then old mid new one two = record {
    since = λ sends first calls is. two.since sends first calls (one.since sends first calls is);
    going = two.going;
    kind = two.kind ∙ one.kind;
    function = two.function ∙ one.function;
  }

  pub brings_at : (moment : ℕ) (old new : B) → gave moment ≡ true → AddsNoCall m.since moment old new → m.going new → m.kind new ≡ m.kind old → m.function new ≡ m.function old → Brings m gave old new
  brings_at moment old new gives adds going kind function = record {
    since = λ sends first calls is. adds gave sends first calls gives is;
    going = going;
    kind = kind;
    function = function;
  }

  module _ (old new : B) (list : List Item) (going : m.going old) (few : length list ≤ MAX_BATCH) where
    -- the list was refused whole for this change
    abbrev pub Refuses : Change → Type 0
    Refuses change = m.differs old list change × StayAsTheyAre (m.items old) (m.items new)

    down_as : (e : CameError) → (e ≡ refusal.OutOfMemory → ⊥) → (e ≡ refusal.OutOfMemory) ⊎ (m.down new ≡ true)
        → ((change : Change) → m.change new ≡ Some change → Refuses change) → IsStopFor m gave old list new Down
    down_as e other down changed = (
      elim down [ inl none ↦ absurd (other none) | inr down_now ↦ down_now ],
      λ change is. record {
        before = old;
        brings = brings_none old going;
        front = [];
        list = list;
        rest = [];
        few = few;
        parts = sym (append-nil list);
        came = λ n. sym (append-nil (m.items old n));
        stay = (changed change is).1;
        differs_so = (changed change is).0;
      },
    )

    stop_as : (r : Result (Unit {0}) CameError) → m.change new ≡ change_told None r
        → IfErr r (λ e. (e ≡ refusal.OutOfMemory) ⊎ (m.down new ≡ true)) → ((change : Change) → IsErrOf r (refusal.StreamChanged change) → Refuses change)
        → IfErr (stop_of r) (IsStopFor m gave old list new)
    stop_as (Ok u) tells down changed = tt
    stop_as (Err (refusal.StreamChanged change)) tells down changed = down_as (refusal.StreamChanged change) (λ e. absurd (let h = e in cc)) down
        (λ other is_other. let the_same : change ≡ other = (let h = tells in let i = is_other in cc) in changed other (ap (λ (z : Change). Err (refusal.StreamChanged z)) the_same))
    stop_as (Err refusal.DiskFault) tells down changed = down_as refusal.DiskFault (λ e. absurd (let h = e in cc)) down (λ other is_other. absurd (let h = tells in let i = is_other in cc))
    stop_as (Err refusal.Down) tells down changed = down_as refusal.Down (λ e. absurd (let h = e in cc)) down (λ other is_other. absurd (let h = tells in let i = is_other in cc))
    stop_as (Err refusal.OutOfMemory) tells down changed = tells

    pub err_stop : (r : Result (Unit {0}) CameError) (q : Result (Unit {0}) Stop) → q ≡ stop_of r → m.change old ≡ None → m.change new ≡ change_told (m.change old) r
        → IfErr r (λ e. (e ≡ refusal.OutOfMemory) ⊎ (m.down new ≡ true)) → ((change : Change) → IsErrOf r (refusal.StreamChanged change) → Refuses change)
        → IfErr q (IsStopFor m gave old list new)
    err_stop r q is_stop none tells down changed =
        subst (λ z. IfErr z (IsStopFor m gave old list new)) (sym is_stop) (stop_as r (tells ∙ ap (λ b. change_told b r) none) down changed)
