use Rattle.aql_local.proofs.transforms.NodeTransformTransformWorld.skip.Goals as goal

pub returns-in-Filter-clause-left : goal.returns-in-Filter-clause-left
returns-in-Filter-clause-left c = rw c.in-Filter.is c.skip.ensures.left

pub returns-in-Distinct-clause-left : goal.returns-in-Distinct-clause-left
returns-in-Distinct-clause-left c = rw c.in-Distinct.is c.skip-in-Distinct.ensures.left

pub returns-in-List-clause-left : goal.returns-in-List-clause-left
returns-in-List-clause-left c = rw c.in-List.is c.skip-in-List.ensures.left

pub returns-in-Collection-clause-left : goal.returns-in-Collection-clause-left
returns-in-Collection-clause-left c = rw c.in-Collection.is c.skip-in-Collection.ensures.left

pub returns-in-Index-clause-left : goal.returns-in-Index-clause-left
returns-in-Index-clause-left c = rw c.in-Index.is c.skip-in-Index.ensures.left

pub returns-in-Traversal-clause-left : goal.returns-in-Traversal-clause-left
returns-in-Traversal-clause-left c = rw c.in-Traversal.is c.skip-in-Traversal.ensures.left

pub returns-in-Sort-clause-left : goal.returns-in-Sort-clause-left
returns-in-Sort-clause-left c = rw c.in-Sort.is c.skip-in-Sort.ensures.left

pub returns-in-Collect-clause-left : goal.returns-in-Collect-clause-left
returns-in-Collect-clause-left c = rw c.in-Collect.is c.skip-in-Collect.ensures.left
