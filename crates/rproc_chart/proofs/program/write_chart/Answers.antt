use Rattle.rproc_chart.specs.Outputs.{IsOutput}
use Rattle.rproc_chart.proofs.OutputFacts.{final, of_source, written}
use Rattle.rproc_chart.proofs.program.write_chart.Goals as goal

pub write_output-requires : goal.write_output-requires
write_output-requires g c = final c.args.bytes.now c.in-Ok.output.text.items c.in-Ok.output.status c.in-Ok.ensures.output

pub returns-in-Ok-clause-written : goal.returns-in-Ok-clause-written
returns-in-Ok-clause-written g c = λ left front.
    let output = c.in-Ok.output in
    written c.write_output.result output.status left _ _ output.text.items (final c.args.bytes.now output.text.items output.status c.in-Ok.ensures.output)
    (of_source left c.args.bytes.now (λ bytes. IsOutput bytes output.text.items output.status) front c.in-Ok.ensures.output) c.write_output.ensures.whole
