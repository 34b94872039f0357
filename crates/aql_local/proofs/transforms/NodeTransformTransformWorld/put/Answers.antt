use Rattle.aql_local.proofs.transforms.NodeTransformTransformWorld.put.Goals as goal

pub returns-in-Filter-clause-valid : goal.returns-in-Filter-clause-valid
returns-in-Filter-clause-valid c = rw c.in-Filter.is c.put.ensures.valid

pub returns-in-Filter-clause-held : goal.returns-in-Filter-clause-held
returns-in-Filter-clause-held c = rw c.in-Filter.is c.put.ensures.held

pub returns-in-Filter-clause-left : goal.returns-in-Filter-clause-left
returns-in-Filter-clause-left c = rw c.in-Filter.is c.put.ensures.left

pub returns-in-Distinct-clause-valid : goal.returns-in-Distinct-clause-valid
returns-in-Distinct-clause-valid c = rw c.in-Distinct.is c.put-in-Distinct.ensures.valid

pub returns-in-Distinct-clause-held : goal.returns-in-Distinct-clause-held
returns-in-Distinct-clause-held c = rw c.in-Distinct.is c.put-in-Distinct.ensures.held

pub returns-in-Distinct-clause-left : goal.returns-in-Distinct-clause-left
returns-in-Distinct-clause-left c = rw c.in-Distinct.is c.put-in-Distinct.ensures.left

pub returns-in-List-clause-valid : goal.returns-in-List-clause-valid
returns-in-List-clause-valid c = rw c.in-List.is c.put-in-List.ensures.valid

pub returns-in-List-clause-held : goal.returns-in-List-clause-held
returns-in-List-clause-held c = rw c.in-List.is c.put-in-List.ensures.held

pub returns-in-List-clause-left : goal.returns-in-List-clause-left
returns-in-List-clause-left c = rw c.in-List.is c.put-in-List.ensures.left

pub returns-in-Collection-clause-valid : goal.returns-in-Collection-clause-valid
returns-in-Collection-clause-valid c = rw c.in-Collection.is c.put-in-Collection.ensures.valid

pub returns-in-Collection-clause-held : goal.returns-in-Collection-clause-held
returns-in-Collection-clause-held c = rw c.in-Collection.is c.put-in-Collection.ensures.held

pub returns-in-Collection-clause-left : goal.returns-in-Collection-clause-left
returns-in-Collection-clause-left c = rw c.in-Collection.is c.put-in-Collection.ensures.left

pub returns-in-Index-clause-valid : goal.returns-in-Index-clause-valid
returns-in-Index-clause-valid c = rw c.in-Index.is c.put-in-Index.ensures.valid

pub returns-in-Index-clause-held : goal.returns-in-Index-clause-held
returns-in-Index-clause-held c = rw c.in-Index.is c.put-in-Index.ensures.held

pub returns-in-Index-clause-left : goal.returns-in-Index-clause-left
returns-in-Index-clause-left c = rw c.in-Index.is c.put-in-Index.ensures.left

pub returns-in-Traversal-clause-valid : goal.returns-in-Traversal-clause-valid
returns-in-Traversal-clause-valid c = rw c.in-Traversal.is c.put-in-Traversal.ensures.valid

pub returns-in-Traversal-clause-held : goal.returns-in-Traversal-clause-held
returns-in-Traversal-clause-held c = rw c.in-Traversal.is c.put-in-Traversal.ensures.held

pub returns-in-Traversal-clause-left : goal.returns-in-Traversal-clause-left
returns-in-Traversal-clause-left c = rw c.in-Traversal.is c.put-in-Traversal.ensures.left

pub returns-in-Sort-clause-valid : goal.returns-in-Sort-clause-valid
returns-in-Sort-clause-valid c = rw c.in-Sort.is c.put-in-Sort.ensures.valid

pub returns-in-Sort-clause-held : goal.returns-in-Sort-clause-held
returns-in-Sort-clause-held c = rw c.in-Sort.is c.put-in-Sort.ensures.held

pub returns-in-Sort-clause-left : goal.returns-in-Sort-clause-left
returns-in-Sort-clause-left c = rw c.in-Sort.is c.put-in-Sort.ensures.left

pub returns-in-Collect-clause-valid : goal.returns-in-Collect-clause-valid
returns-in-Collect-clause-valid c = rw c.in-Collect.is c.put-in-Collect.ensures.valid

pub returns-in-Collect-clause-held : goal.returns-in-Collect-clause-held
returns-in-Collect-clause-held c = rw c.in-Collect.is c.put-in-Collect.ensures.held

pub returns-in-Collect-clause-left : goal.returns-in-Collect-clause-left
returns-in-Collect-clause-left c = rw c.in-Collect.is c.put-in-Collect.ensures.left
