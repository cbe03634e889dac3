-- The next piece begins behind the mark that ends this one.
use native.Mathlib.Omega.{arith}
use borrow.Author.Count.{below_more}
use Rattle.printing.proofs.Printed.{next-begins, behind}
use Rattle.printing.proofs.CutIterator.next.Goals as goal

pub overflow_add-self : goal.overflow_add-self
overflow_add-self c =
    let self = c.args.self.now in omega (arith, self.place, behind self.mark self.s.now self.taken)

pub invariant_of-self : goal.invariant_of-self
invariant_of-self c = let self = c.args.self.now in record {
  place = next-begins self.mark self.s.now self.taken self.from c.find-end.result self.place c.find-end.ensures.place;
  begin = below_more _ _ self.begin (let e = self.place in omega arith);
}
