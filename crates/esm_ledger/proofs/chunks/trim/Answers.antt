use Rattle.std.proofs.Common.{◌≡◌, ◌∙◌, ◌+◌, ◌∷◌, drop, length, suc, ap, subst, sym, arith, List, Option}
use Rattle.std.specs.List.{All}
use Rattle.esm_model.specs.Records.{Record}
use Rattle.esm_ledger.specs.Chunks.{IsWhole, none_held, places_in}
use Rattle.esm_ledger.proofs.ChunkSlots.{places_fewer, whole_fewer}
use Rattle.esm_ledger.proofs.chunks.trim.Goals as goal

pub loop-chunks-preserved : goal.loop-chunks-preserved
loop-chunks-preserved c =
    let at = c.loop-chunks in
    let chunks = at.chunks.items in
    let empty : chunks ≡ none_held ∷ drop 1 chunks = c.is_front_empty.ensures.empty c.loop-chunks-test.true in
    let rest : c.pop_front.new.self.items ≡ drop 1 chunks = c.pop_front.ensures.rest in
    let few = at.invariant.few in
    let less : length chunks ≡ suc (length (drop 1 chunks)) = ap length empty in
    let n : length c.pop_front.new.self.items ≡ length (drop 1 chunks) = ap length rest in
    record {
      few = omega (arith, few, less, n);
      whole = subst (λ (cs : List (List (Option Record))). All IsWhole cs) (sym rest) (whole_fewer chunks empty at.invariant.whole);
      places = ap (places_in (at.base + 16)) rest ∙ places_fewer at.base chunks empty ∙ at.invariant.places;
      len = (let before = at.invariant.len in let gone = c.pop_front.ensures.len in omega (arith, before, gone));
      capacity = c.pop_front.ensures.capacity ∙ at.invariant.capacity;
    }
