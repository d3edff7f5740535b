-- What calls one after the other lead to.
use Rattle.std.proofs.Common.{◌≡◌, ℕ, Bool, true, List, [], ◌∷◌, ◌++◌, refl, sym, ap, ◌∙◌, subst, append_assoc, Option, Some, None, inl, inr}
use Rattle.esm_io.specs.Told.{Grows}
use Rattle.esm_model.specs.declared.called.Called.{Called}
use Rattle.esm_model.specs.declared.entry.Reply.{Reply}
use Rattle.esm_model.specs.declared.book.Job.{Job}
use Rattle.esm_serial.specs.declared.serial.Serial.{Ghosts as Serial}
use Rattle.esm_serial.specs.Adding.{AddsNoCall, AddsCall, call_to}
use Rattle.esm_serial.specs.Steps.{LeadsOn, LeadsPerhapsOn, IsAsItWas}

grows_then : {A : Type 0} (a b c : Option (List A)) (xs ys : List A) → Grows a b xs → Grows b c ys → Grows a c (xs ++ ys)
grows_then None None c xs ys first second = second
grows_then None (Some b) c xs ys first second = absurd (cc)
grows_then (Some a) None c xs ys first second = absurd (cc)
grows_then (Some a) (Some b) c xs ys first second =
    let is : b ≡ a ++ xs = (let e = first in cc) in
    second ∙ ap (λ l. Some (l ++ ys)) is ∙ ap (λ l. Some l) (append_assoc a xs ys)

module _ {B : Type 0} (m : Serial B) where
  pub as_it_was : (b : B) → IsAsItWas m b b
  as_it_was b = record { function = refl; items = λ n. refl; change = refl; shut = λ shut. shut }

  pub as_then : (a b c : B) → IsAsItWas m a b → IsAsItWas m b c → IsAsItWas m a c
  as_then a b c one two = record {
    function = two.function ∙ one.function;
    items = λ n. two.items n ∙ one.items n;
    change = two.change ∙ one.change;
    shut = λ shut. two.shut (one.shut shut);
  }

  module _ (gave : ℕ → Bool) (sends : List ℕ → List ℕ) where
    pub leads_none : (b : B) (log : Option (List Called)) → LeadsOn m gave sends b b log log
    leads_none b log first start was = was

    pub leads_then : (a b c : B) (k l n : Option (List Called)) → LeadsOn m gave sends a b k l → LeadsOn m gave sends b c l n → LeadsOn m gave sends a c k n
    leads_then a b c k l n one two first start was = two first start (one first start was)

    pub leads_then_perhaps : (a b c : B) (k l n : Option (List Called)) → LeadsOn m gave sends a b k l → LeadsPerhapsOn m gave sends b c l n → LeadsPerhapsOn m gave sends a c k n
    leads_then_perhaps a b c k l n one two first start was = two first start (one first start was)

    pub leads_perhaps : (a b : B) (k l : Option (List Called)) → LeadsOn m gave sends a b k l → LeadsPerhapsOn m gave sends a b k l
    leads_perhaps a b k l one first start was = inl (one first start was)

    module _ (moment : ℕ) (gives : gave moment ≡ true) (old new : B) (log log' : Option (List Called)) where
      pub leads_at : AddsNoCall m.since moment old new → log' ≡ log → LeadsOn m gave sends old new log log'
      leads_at adds same first start was = record {
        calls = was.calls;
        since = adds gave sends first was.calls gives was.since;
        logged = subst (λ l. Grows start l was.calls) (sym same) was.logged;
      }

      module _ (name : List ℕ) (named : name ≡ m.function old) (job : Job) (reply : Reply) (logged : Grows log log' (record { name = name; event = sends job.event; reply = reply } ∷ [])) where
        grown : (start : Option (List Called)) (calls : List Called) → Grows start log calls → Grows start log' (calls ++ call_to (m.function old) sends job.event reply ∷ [])
        grown start calls was = grows_then start log log' calls (call_to (m.function old) sends job.event reply ∷ []) was (subst (λ f. Grows log log' (call_to f sends job.event reply ∷ [])) named logged)

        pub leads_by : AddsCall m.since moment old new (m.function old) job.event reply → LeadsOn m gave sends old new log log'
        leads_by adds first start was = record {
          calls = was.calls ++ call_to (m.function old) sends job.event reply ∷ [];
          since = adds gave sends first was.calls gives was.since;
          logged = grown start was.calls was.logged;
        }

        pub leads_short : AddsNoCall m.since moment old new → m.runs new job → m.function new ≡ m.function old → LeadsPerhapsOn m gave sends old new log log'
        leads_short adds running same first start was = inr (record {
          calls = was.calls;
          since = adds gave sends first was.calls gives was.since;
          job = job;
          running = running;
          reply = reply;
          logged = subst (λ f. Grows start log' (was.calls ++ call_to f sends job.event reply ∷ [])) (sym same) (grown start was.calls was.logged);
        })
