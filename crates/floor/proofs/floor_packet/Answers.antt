-- `floor::floor_packet` keeps its promise. Assumes nothing.
use Rattle.std.proofs.Common.{rules, ◌≡◌, sym, ap, ◌∙◌}
use Rattle.desk_test.specs.Lent.{formed}
use Rattle.words.specs.Choice.{by_test}
use Rattle.steps.specs.declared.Step.{Step}
use Rattle.packet_events.specs.PacketEvents.{hears}
use Rattle.desk_octets.specs.Form.{core_at, hall_at}
use Rattle.signed.proofs.Signed.{passed}
use Rattle.desk_steps.specs.Steps.{outcome_on, step_on}
use Rattle.desk_steps.proofs.Steps.{same_leaves, no_desk_so}
use Rattle.floor.proofs.floor_packet.Goals as goal

pub returns : goal.returns
unfolding outcome_on step_on
returns c =
    let d = c.args.desk.now in
    same_leaves (passed c.step_with.type_inv)
    ∙ by_test (formed d)
    (λ q. let e = c.step_with.ensures.made q in
    let p = e.1 in
    let s : e.0 ≡ hears (core_at d) (hall_at d) c.args.packet.now = search rules in
    e.2 ∙ ap (λ (s : Step). step_on d c.args.report.now s) s)
    (λ q. c.step_with.ensures.no_desk q ∙ sym (no_desk_so _ _ _ _ _ q))
