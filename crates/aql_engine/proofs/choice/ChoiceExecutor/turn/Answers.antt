use Rattle.aql_engine.proofs.choice.ChoiceExecutor.turn.Goals as goal

pub returns-in-First-clause-inputs : goal.returns-in-First-clause-inputs
returns-in-First-clause-inputs g c = rw c.in-First.is c.turn.ensures.inputs

pub returns-in-First-clause-leads : goal.returns-in-First-clause-leads
returns-in-First-clause-leads g c = rw c.in-First.is c.turn.ensures.leads

pub returns-in-First-clause-other_ports : goal.returns-in-First-clause-other_ports
returns-in-First-clause-other_ports g c = rw c.in-First.is c.turn.ensures.other_ports

pub returns-in-First-clause-drained : goal.returns-in-First-clause-drained
returns-in-First-clause-drained g c = rw c.in-First.is c.turn.ensures.drained

pub returns-in-First-clause-budget : goal.returns-in-First-clause-budget
returns-in-First-clause-budget g c = rw c.in-First.is c.turn.ensures.budget

pub returns-in-Second-clause-inputs : goal.returns-in-Second-clause-inputs
returns-in-Second-clause-inputs g c = rw c.in-Second.is c.turn-in-Second.ensures.inputs

pub returns-in-Second-clause-leads : goal.returns-in-Second-clause-leads
returns-in-Second-clause-leads g c = rw c.in-Second.is c.turn-in-Second.ensures.leads

pub returns-in-Second-clause-other_ports : goal.returns-in-Second-clause-other_ports
returns-in-Second-clause-other_ports g c = rw c.in-Second.is c.turn-in-Second.ensures.other_ports

pub returns-in-Second-clause-drained : goal.returns-in-Second-clause-drained
returns-in-Second-clause-drained g c = rw c.in-Second.is c.turn-in-Second.ensures.drained

pub returns-in-Second-clause-budget : goal.returns-in-Second-clause-budget
returns-in-Second-clause-budget g c = rw c.in-Second.is c.turn-in-Second.ensures.budget

pub returns-in-First-clause-unskipped : goal.returns-in-First-clause-unskipped
returns-in-First-clause-unskipped g c = rw c.in-First.is c.turn.ensures.unskipped

pub returns-in-First-clause-done : goal.returns-in-First-clause-done
returns-in-First-clause-done g c = rw c.in-First.is c.turn.ensures.done

pub returns-in-Second-clause-unskipped : goal.returns-in-Second-clause-unskipped
returns-in-Second-clause-unskipped g c = rw c.in-Second.is c.turn-in-Second.ensures.unskipped

pub returns-in-Second-clause-done : goal.returns-in-Second-clause-done
returns-in-Second-clause-done g c = rw c.in-Second.is c.turn-in-Second.ensures.done
