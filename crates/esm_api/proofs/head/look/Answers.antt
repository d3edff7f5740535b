use Rattle.std.proofs.Common.{◌≡◌, ◌<◌, ◌+◌, ◌++◌, ℕ, List, length, take, drop, get_or, sym, ap, ◌∙◌, subst, arith}
use Rattle.std.specs.Prelude.{IfOk, Result, Ok, Err, Option, None}
use Rattle.std.proofs.lemmas.Bool.{eq-eqb}
use Rattle.std.proofs.lemmas.List.{take-append-drop, get_or-drop, length-drop}
use Rattle.esm_model.specs.declared.memory.OutOfMemory.{OutOfMemory}
use Rattle.esm_api.specs.declared.head.Head.{Head}
use Rattle.esm_api.specs.HeadRead.{HasNoLine, HasNoneYet, LooksForHead}
use Rattle.esm_api.proofs.HeadLemmas.{looks_on}
use Rattle.esm_api.proofs.head.look.Goals as goal

looks_if : (lines tail bytes : List ℕ) (r : Result (Option Head) OutOfMemory) → lines ++ tail ≡ bytes → HasNoLine tail → IfOk r (LooksForHead lines) → IfOk r (LooksForHead bytes)
looks_if lines tail bytes (Ok found) whole free looks = subst (λ t. LooksForHead t found) whole (looks_on lines tail found free looks)
looks_if lines tail bytes (Err e) whole free looks = tt

pub returns-in-None : goal.returns-in-None
returns-in-None c =
    let bytes = c.args.bytes.now in
    let free : HasNoLine (drop c.args.looked bytes) =
    λ k lt e. c.in-None.ensures k (omega arith) (omega (arith, lt, ap length c.split_at.ensures.back)) (eq-eqb _ 10 (ap (λ t. get_or t k 0) c.split_at.ensures.back ∙ e)) in
    subst HasNoneYet (take-append-drop c.args.looked bytes) (looks_on (take c.args.looked bytes) (drop c.args.looked bytes) None free c.requires.looked)

pub returns-in-Some : goal.returns-in-Some
returns-in-Some c =
    let bytes = c.args.bytes.now in
    let end = c.args.looked + c.in-Some.at + 1 in
    let back = c.split_at.ensures.back in
    let free : HasNoLine (drop end bytes) =
    λ k lt e.
    let j = c.in-Some.at + 1 + k in
    let place : c.args.looked + j ≡ end + k = omega arith in
    let at : get_or c.split_at.result.1.now j 0 ≡ 10 =
    ap (λ t. get_or t j 0) back ∙ get_or-drop c.args.looked bytes j 0 ∙ ap (λ n. get_or bytes n 0) place ∙ sym (get_or-drop end bytes k 0) ∙ e in
    let within : j < length c.split_at.result.1.now = omega (arith, lt, length-drop end bytes, ap length back, length-drop c.args.looked bytes) in
    c.in-Some.ensures.0.after j (omega arith) within (eq-eqb _ 10 at) in
    looks_if (take end bytes) (drop end bytes) bytes c.parse.result (take-append-drop end bytes) free
    (subst (λ t. IfOk c.parse.result (LooksForHead t)) c.split_at-in-Some.ensures.front c.parse.ensures)
