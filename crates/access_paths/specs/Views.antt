-- What the bounds, matches and chains of this crate stand for.
use Rattle.plan_tree.specs.Sets.{set_of}
use Rattle.access_paths.specs.Bounds as b
use Rattle.access_paths.specs.Matches as m
use Rattle.access_paths.specs.declared.sargable_terms.SargableTerm.{SargableTerm}
use Rattle.access_paths.specs.declared.matching_terms.MatchingTerm.{MatchingTerm}
use Rattle.access_paths.specs.declared.index_matches.IndexMatch.{IndexMatch}

abbrev pub sargable_term_of : SargableTerm → b.SargableTerm
sargable_term_of x = record { equals = x.equals; required_outer = set_of x.required_outer }

abbrev pub matching_term_of : MatchingTerm → m.Match
matching_term_of x = record { conjunct = x.conjunct; equals = x.equals; required_outer = set_of x.required_outer }

abbrev pub index_match_of : IndexMatch → m.IndexMatch
index_match_of x = record { conjuncts = x.conjuncts.items; equal = x.equal; required_outer = set_of x.required_outer }
