use Rattle.aql_script.specs.laws.OfBytes.{fault_of_bytes}
use Rattle.aql_script.proofs.loading.bytes_have_no_other_fault.Goals as goal

pub returns : goal.returns
returns c bytes fault h = fault_of_bytes bytes fault h
