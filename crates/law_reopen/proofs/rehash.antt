mod RehashFiles
