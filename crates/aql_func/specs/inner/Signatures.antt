-- The code's table entry, as the definitions see it.
use Rattle.aql_func.specs.Names.{Signature}
use Rattle.aql_func.specs.declared.signatures.Signature.{Signature as Entry}

abbrev pub signature_of : Entry → Signature
signature_of entry = record { name = entry.name.now; least = entry.arity.least; most = entry.arity.most }
