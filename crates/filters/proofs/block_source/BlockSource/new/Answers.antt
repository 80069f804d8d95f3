use Rattle.filters.proofs.block_source.BlockSource.new.Goals as goal

pub invariant_of-result : goal.invariant_of-result
invariant_of-result c =
    let (blocks, around, n, formed) = c.requires.formed in
    record {
      valid = c.tables-tables.ensures.valid;
      tables = c.in_ok-tables.ensures.exact;
      count = c.in_ok-tables.ensures.count;
      few = formed.count;
      conditions = c.requires.conjuncts;
    }
