-- A step as the checker holds it.
use Rattle.chains.specs.Steps.{Step}
use Rattle.step_reading.specs.declared.Step.{Step as StepFields}

abbrev pub as_step : StepFields → Step
as_step s = record { operation = s.operation; first = s.first; second = s.second }
