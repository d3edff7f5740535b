-- The parts of the shorter list, one after the other.
use Rattle.std.proofs.Common.{◌≡◌, List, [], ◌++◌, ap, ◌∙◌}
use Rattle.esm_journal_record.specs.declared.said.Said.{Said}

pub joined : (s0 s1 s2 s3 s4 s5 s6 x1 x2 x3 x4 x5 x6 : List Said) → s0 ≡ [] → s1 ≡ s0 ++ x1 → s2 ≡ s1 ++ x2 → s3 ≡ s2 ++ x3 → s4 ≡ s3 ++ x4 → s5 ≡ s4 ++ x5 → s6 ≡ s5 ++ x6
    → s6 ≡ x1 ++ x2 ++ x3 ++ x4 ++ x5 ++ x6
joined s0 s1 s2 s3 s4 s5 s6 x1 x2 x3 x4 x5 x6 e0 e1 e2 e3 e4 e5 e6 =
    e6 ∙ ap (λ s. s ++ x6) (e5 ∙ ap (λ s. s ++ x5) (e4 ∙ ap (λ s. s ++ x4) (e3 ∙ ap (λ s. s ++ x3) (e2 ∙ ap (λ s. s ++ x2) (e1 ∙ ap (λ s. s ++ x1) e0)))))
