-- What goes over a link in several calls.
use Rattle.std.proofs.Common.{◌≡◌, ℕ, ◌+◌, ◌≤◌, List, [], ◌++◌, length, take, Option, Some, None, refl, sym, ap, ◌∙◌, subst, append_assoc, append-nil, IfOk}
use Rattle.std.specs.Prelude.{Result, Ok, Err}
use Rattle.std.proofs.Math.Seq.{take-append-add}
use Rattle.esm_io.specs.Talks.{Talk, Reads, Writes}
use Rattle.esm_invoke.specs.Receiving.{ReadsMore}

-- a talk from its parts
abbrev talk : List ℕ → List ℕ → List ℕ → Talk
talk read left written = record { read = read; left = left; written = written }

pub Writes_none : (t : Option Talk) → Writes t t []
Writes_none None = refl
Writes_none (Some t) = ap (λ w. Some (talk t.read t.left w)) (sym (append-nil t.written))

pub Writes_then : (a b c : Option Talk) (x y : List ℕ) → Writes a b x → Writes b c y → Writes a c (x ++ y)
Writes_then None b c x y first next = subst (λ t. Writes t c y) first next
Writes_then (Some t) b c x y first next =
    subst (λ t'. Writes t' c y) first next ∙ ap (λ w. Some (talk t.read t.left w)) (append_assoc t.written x y)

pub Reads_none : (t : Option Talk) → Reads t t []
Reads_none None = refl
Reads_none (Some t) = (t.left, refl, ap (λ r. Some (talk r t.left t.written)) (sym (append-nil t.read)))

pub Reads_then : (a b c : Option Talk) (x y : List ℕ) → Reads a b x → Reads b c y → Reads a c (x ++ y)
Reads_then None b c x y first next = subst (λ t. Reads t c y) first next
Reads_then (Some t) b c x y first next =
    let more = subst (λ t'. Reads t' c y) first.2 next in (
      more.0,
      first.1 ∙ ap (λ l. x ++ l) more.1 ∙ sym (append_assoc x y more.0),
      more.2 ∙ ap (λ r. Some (talk r more.0 t.written)) (append_assoc t.read x y),
    )

-- a read behind the front of a buffer puts its bytes there
pub read_behind : (old new : Option Talk) (buffer front into : List ℕ) (filled n : ℕ) → filled ≤ length buffer → front ≡ take filled buffer → length front ≡ filled
    → Reads old new (take n into) → ReadsMore old new (take filled buffer) (take (filled + n) (front ++ into))
read_behind old new buffer front into filled n within same len reads = record {
  piece = take n into;
  grown = ap (λ k. take (k + n) (front ++ into)) (sym len) ∙ take-append-add front into n ∙ ap (λ f. f ++ take n into) same;
  reads = reads;
}

pub read_behind_if : {E : Type 0} (old new : Option Talk) (buffer front into : List ℕ) (filled : ℕ) → filled ≤ length buffer → front ≡ take filled buffer → length front ≡ filled
    → (r : Result ℕ E) → IfOk r (λ n. Reads old new (take n into)) → IfOk r (λ n. ReadsMore old new (take filled buffer) (take (filled + n) (front ++ into)))
read_behind_if old new buffer front into filled within same len (Ok n) reads = read_behind old new buffer front into filled n within same len reads
read_behind_if old new buffer front into filled within same len (Err e) reads = tt
