mod AtomCaseLaws
