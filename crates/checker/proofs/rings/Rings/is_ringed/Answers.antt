use Rattle.std.proofs.Common.{◌∙◌, refl, arith}
use Rattle.std.proofs.lemmas.Bool.{false≢true}
use Rattle.checker.proofs.Around.{unused, ring_told, returned, blank_after}
use Rattle.checker.proofs.Following.{place_of_each}
use Rattle.checker.proofs.Walking.{went, ended}
use Rattle.checker.proofs.rings.Rings.is_ringed.Goals as goal

pub returns-in-Some-join_neighbours : goal.returns-in-Some-join_neighbours
returns-in-Some-join_neighbours c =
    let k = c.args.self.now.chains.now in
    let ns = k.numbers.now in
    let d = c.args.corner in
    let a = c.around.result in
    let s = c.in-Some.first in
    let w = went k d a c.next.new.self s (record { chains_are = c.around.ensures.chains; corner_is = c.around.ensures.corner }) c.in-Some.ensures.steps in
    let r = c.join_neighbours.new.self in
    let f = r.follow.now in
    let j = c.in-Some-join_neighbours.ensures.cases in
    let n = c.in-Some-join_neighbours.around in
    let g = c.goes_round.ensures in
    let after = c.goes_round.new.self in
    let same = c.join_neighbours.ensures.chains in
    let room = place_of_each r k same in
    let left = place_of_each after k (g.chains ∙ same) in
    record {
      chains = g.chains ∙ same;
      value = ring_told ns _ _ k.ready d f (omega arith) j.joined a.at w.there s w.stepped n j.many c.goes_round.result g.value;
      returned = λ e. returned ns _ _ k.ready d f (omega arith) j.joined a.at w.there s w.stepped n j.many (g.value.0 e);
      blank = λ e. blank_after ns _ _ k.ready d f (omega arith) j.joined a.at w.there s w.stepped n j.many (g.value.0 e) after.follow.now (omega arith) (g.cleared e);
    }

pub returns-in_default : goal.returns-in_default
returns-in_default c =
    let k = c.args.self.now.chains.now in
    let a = c.around in
    let over = ended k c.args.corner a.result (record { chains_are = a.ensures.chains; corner_is = a.ensures.corner }) c.in_default.ensures.steps in
    let none = unused _ _ _ k.ready c.args.corner a.result.at a.ensures.first (omega arith) in
    record {
      chains = refl;
      value = λ closed. (λ z. absurd (false≢true z), λ r. absurd (omega (arith, r.used, none)));
      returned = λ z. absurd (false≢true z);
      blank = λ z. absurd (false≢true z);
    }
