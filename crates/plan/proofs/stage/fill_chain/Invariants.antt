-- The invariant: what is still to be stored, stored into the words as they are now, gives the goal.
use Rattle.std.proofs.Common.{◌≡◌, ◌+◌, ◌*◌, length}
use lib.Seq.{sets}
use Rattle.plan.specs.Planning.{chain_words}
use Rattle.plan.proofs.Laws.Chains.{chain_from}
use Rattle.plan.proofs.stage.fill_chain.Given as goal

abbrev pub invariant-loop-i : goal.invariant-loop-i
invariant-loop-i l =
    (length l.words ≡ length l.initial.words)
    × (l.buf ≡ l.stage.dma_addr + l.i * l.chunk)
    × (sets l.words (2 * l.i) (chain_from l.mps l.chunk l.is_in l.stage.descs l.stage.len l.stage.dma_addr l.i)
    ≡ sets l.initial.words 0 (chain_words l.mps l.is_in l.stage.descs l.stage.len l.stage.dma_addr))
