-- `payload::put_all` meets its contract: the blocks passed stand at the start. Assumes nothing.
use mathlib.Core.Path.{◌≡◌, sym, ap, ap₂, ◌∙◌}
use mathlib.Core.List.{List}
use Prim.Native.Nat.{ℕ, ◌+◌, ◌*◌, min}
use native.Mathlib.Omega.{arith}
use lib.ListN.{length, drop, length-drop}
use Rattle.block.specs.Block.{kind_number}
use Rattle.block.specs.Limits.{room}
use Rattle.writer.specs.Writing.{blocks_for}
use Rattle.writer.specs.Layout.{block_of}
use Rattle.writer.proofs.Laying.{piece_next, run_none, run_put, run_full}
use Rattle.writer.proofs.payload.put_all.Goals as goal

pub loop-k-init : goal.loop-k-init
loop-k-init c =
    let a = c.args in
    let it = c.into_iter-k-iterator.result in
    let none : it.count ≡ 0 = cc in
    let rest : it.iter.rest.now ≡ a.payload.now = cc in
    record {
      made = rw (none, run_none (kind_number a.kind) a.first a.payload.now);
      left = rw (none, rest);
      pieces = cc;
      some_more = omega arith;
    }

pub loop-k-preserved : goal.loop-k-preserved
loop-k-preserved c =
    let a = c.args in
    let l = c.loop-k in
    let s = c.in-Some.ensures.steps in
    let k = l.k-iterator.count in
    let i = l.invariant in
    let n : c.next.new.self.count ≡ k + 1 = s.2 in
    let long : length c.in-Some.piece.now ≡ min room (length l.k-iterator.iter.rest.now) = rw i.pieces at s.0.1.1 in
    let (is, left) = piece_next a.payload.now l.k-iterator.iter.rest.now c.in-Some.piece.now c.next.new.self.iter.rest.now k i.left s.0.1.0 long in
    let b = c.put.ensures ∙ ap₂ (λ (j : ℕ) (p : List ℕ). block_of (kind_number a.kind) (a.first + j) p) s.1 is in
    record {
      made = rw (n, s.1) (run_put (kind_number a.kind) a.first a.payload.now a.out.now l.out c.put.new.out k i.made b);
      left = rw n left;
      pieces = s.0.0 ∙ i.pieces;
      some_more = omega (arith, length-drop (room * k) a.payload.now, ap length i.left, s.0.1.2);
    }

pub returns : goal.returns
returns c =
    let a = c.args in
    let l = c.loop-k in
    let k = l.k-iterator.count in
    let all : length (drop (room * k) a.payload.now) ≡ 0 = ap length (sym l.invariant.left) ∙ c.in-None.ensures.steps.0.1.0 in
    let n : k ≡ blocks_for (length a.payload.now) = omega (arith, length-drop (room * k) a.payload.now, l.invariant.some_more) in
    run_full (kind_number a.kind) a.first a.payload.now a.out.now l.out k l.invariant.made n c.requires.out_len
